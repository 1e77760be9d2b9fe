-- Bits that are held between two bytes, and the strings of bits that were put and got so far, as binary numbers.
use Rattle.std.specs.Prelude.{ℕ, ◌+◌, ◌*◌, ◌^◌, ◌<◌, ◌≡◌, List, fold, take}
use Rattle.va_pack.specs.declared.bits.HeldBits.{HeldBits}

-- the number that bytes write, the most significant first
abbrev pub number_of : List ℕ → ℕ
number_of bytes = fold (λ n byte. n * 256 + byte) 0 bytes

-- fewer than eight bits, and the number that they write
pub record AreHeld (held : HeldBits) : Type 0 where
  pub few : held.count < 8
  pub fit : held.value < 2 ^ held.count

-- how many bits were put
abbrev pub bits_before : HeldBits → ℕ
bits_before held = 8 * held.at + held.count

-- the string that was put: the whole bytes, and the bits that are held behind them
abbrev pub written : HeldBits → List ℕ → ℕ
written held out = number_of (take held.at out) * 2 ^ held.count + held.value

-- the string n was got, and the bits that are held come next
abbrev pub HasRead : HeldBits → List ℕ → ℕ → Type 0
HasRead held bytes n = number_of (take held.at bytes) ≡ n * 2 ^ held.count + held.value
