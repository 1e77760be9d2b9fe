use Rattle.std.proofs.Common.{◌+◌, ◌-◌, take, arith}
use Rattle.va_pack.specs.Held.{number_of}
use Rattle.va_pack.proofs.Shifts.{appended_fits, high_fits, put_within, put_beyond}
use Rattle.va_pack.proofs.bits.HeldBits.put.Goals as goal

pub returns-then-count-lt8-clause-held : goal.returns-then-count-lt8-clause-held
returns-then-count-lt8-clause-held c = record {
  few = omega arith;
  fit = rw c.appended-value.ensures (appended_fits c.args.self.value c.args.slice c.args.self.count c.args.width c.requires.held.fit c.requires.fits);
}

pub returns-then-count-lt8-clause-written : goal.returns-then-count-lt8-clause-written
returns-then-count-lt8-clause-written c =
    put_within (number_of (take c.args.self.at c.args.out.now)) c.args.self.count c.args.width c.args.self.value c.args.slice c.appended-value.result c.appended-value.ensures

pub high_bits-requires-clause-fits : goal.high_bits-requires-clause-fits
high_bits-requires-clause-fits c =
    high_fits c.appended-value.result (c.args.self.count + c.args.width) 8 (c.args.self.count + c.args.width - 8)
    (rw c.appended-value.ensures (appended_fits c.args.self.value c.args.slice c.args.self.count c.args.width c.requires.held.fit c.requires.fits))
    (omega arith)

pub returns-clause-written : goal.returns-clause-written
returns-clause-written c =
    put_beyond c.args.out.now c.args.self.at c.args.self.count c.args.width (c.args.self.count + c.args.width - 8) c.args.self.value c.args.slice
    c.appended-value.result c.high_bits.result c.low_bits.result
    (omega arith) (omega arith) c.appended-value.ensures c.high_bits.ensures c.low_bits.ensures
