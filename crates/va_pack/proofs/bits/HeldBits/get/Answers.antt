use Rattle.std.proofs.Common.{◌+◌, ◌-◌, take, get_or, arith}
use Rattle.va_pack.specs.Held.{number_of}
use Rattle.va_pack.proofs.Shifts.{high_fits, byte_appended_fits, fits_byte, get_within, get_beyond}
use Rattle.va_pack.proofs.bits.HeldBits.get.Goals as goal

pub returns-then-width-self-clause-fits : goal.returns-then-width-self-clause-fits
returns-then-width-self-clause-fits c =
    rw c.high_bits.ensures (high_fits c.args.self.value c.args.self.count c.args.width (c.args.self.count - c.args.width) c.requires.held.fit (omega arith))

pub returns-then-width-self-clause-read : goal.returns-then-width-self-clause-read
returns-then-width-self-clause-read c n read =
    get_within (number_of (take c.args.self.at c.args.bytes.now)) n c.args.self.count c.args.width (c.args.self.count - c.args.width)
    c.args.self.value c.high_bits.result c.low_bits.result
    (omega arith) c.high_bits.ensures c.low_bits.ensures read

pub high_bits-requires-2-clause-fits : goal.high_bits-requires-2-clause-fits
high_bits-requires-2-clause-fits c =
    fits_byte _ c.args.width c.requires.narrow
    (high_fits c.appended-value.result (c.args.self.count + 8) c.args.width (c.args.self.count + 8 - c.args.width)
    (byte_appended_fits c.args.self.value (get_or c.args.bytes.now c.args.self.at 0) c.args.self.count c.appended-value.result
    c.requires.held.fit (omega (arith, c.type_inv.bytes c.args.self.at)) c.appended-value.ensures)
    (omega arith))

pub returns-clause-fits : goal.returns-clause-fits
returns-clause-fits c =
    rw c.high_bits-2.ensures (high_fits c.appended-value.result (c.args.self.count + 8) c.args.width (c.args.self.count + 8 - c.args.width)
    (byte_appended_fits c.args.self.value (get_or c.args.bytes.now c.args.self.at 0) c.args.self.count c.appended-value.result
    c.requires.held.fit (omega (arith, c.type_inv.bytes c.args.self.at)) c.appended-value.ensures)
    (omega arith))

pub returns-clause-read : goal.returns-clause-read
returns-clause-read c n read =
    get_beyond c.args.bytes.now c.args.self.at n c.args.self.count c.args.width (c.args.self.count + 8 - c.args.width) c.args.self.value
    c.appended-value.result c.high_bits-2.result c.low_bits-2.result
    (omega arith) (omega arith) c.appended-value.ensures c.high_bits-2.ensures c.low_bits-2.ensures read
