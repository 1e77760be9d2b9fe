-- A packed code names its slices.
use Rattle.std.proofs.Common.{◌≡◌, ℕ, zero, suc, ◌/◌, ◌%◌, ◌^◌, ◌<◌, ◌≤◌, List, [], ◌∷◌, ◌++◌, length, get_or, take, add-one, refl, sym, ◌∙◌, ap, subst, arith}
use Rattle.std.proofs.lemmas.List.{take_all, take_more}
use Rattle.std.proofs.lemmas.Nat.{div-mul-add, mod-mul-add, pow_pos}
use Rattle.va_core.specs.Cells.{NamesSlices}
use Rattle.va_core.specs.Codes.{AreSlices, packed, padding}
use Rattle.va_core.specs.Marks.{HasShape}
use Rattle.va_core.specs.Shape.{Shape, IsShape, bits_of}
use Rattle.va_pack.specs.Held.{number_of}
use Rattle.va_pack.specs.Unpacked.{IsNamed, slices_in, unpacked}
use Rattle.va_pack.proofs.Codes.{number_of_packed}
use Rattle.va_pack.proofs.Strings.{string_below, string_suc}

slices_of_string : (shape : Shape) (xs : List ℕ) → AreSlices shape xs → (dim : ℕ) → dim ≤ shape.dims → slices_in (bits_of shape) dim (string_below shape xs dim) ≡ take dim xs
slices_of_string shape xs are zero le = refl
slices_of_string shape xs are (suc dim) le =
    let inside : dim < length xs = omega (arith, are.one_each) in
    let next = string_suc shape xs dim inside in
    let fits = are.fit dim (omega arith) in
    let w = 2 ^ bits_of shape dim in
    let front : string_below shape xs (suc dim) / w ≡ string_below shape xs dim = ap (λ n. n / w) next ∙ div-mul-add (string_below shape xs dim) w (get_or xs dim 0) fits in
    let last : string_below shape xs (suc dim) % w ≡ get_or xs dim 0 = ap (λ n. n % w) next ∙ mod-mul-add (string_below shape xs dim) w (get_or xs dim 0) fits in
    ap (λ n. slices_in (bits_of shape) dim n ++ string_below shape xs (suc dim) % w ∷ []) front
    ∙ ap (λ l. l ++ string_below shape xs (suc dim) % w ∷ []) (slices_of_string shape xs are dim (omega arith))
    ∙ ap (λ n. take dim xs ++ n ∷ []) last
    ∙ sym (take_more xs dim 0 inside) ∙ ap (λ n. take n xs) (add-one dim)

-- a cell's slices are those that its code names
pub unpacked_packed : (shape : Shape) (xs : List ℕ) → IsShape shape → AreSlices shape xs → unpacked shape (packed shape xs) ≡ xs
unfolding unpacked
unpacked_packed shape xs is are =
    let string = string_below shape xs shape.dims in
    let number : number_of (packed shape xs) / 2 ^ padding shape ≡ string =
    ap (λ n. n / 2 ^ padding shape) (number_of_packed shape xs is are ∙ omega arith) ∙ div-mul-add string (2 ^ padding shape) 0 (pow_pos (padding shape)) in
    ap (slices_in (bits_of shape) shape.dims) number ∙ slices_of_string shape xs are shape.dims (omega arith) ∙ take_all shape.dims xs (omega (arith, are.one_each))

-- bytes to which slices pack name those slices
pub unpacked_is : (shape : Shape) (xs bytes : List ℕ) → IsShape shape → AreSlices shape xs → packed shape xs ≡ bytes → xs ≡ unpacked shape bytes
unpacked_is shape xs bytes is are same = sym (ap (unpacked shape) (sym same) ∙ unpacked_packed shape xs is are)

-- slices that aren't empty have the bits of their dimensions
pub slices_named : (shape : Shape) (marks : List (List ℕ)) (xs : List ℕ) → HasShape shape marks → NamesSlices marks xs → AreSlices shape xs
slices_named shape marks xs has names = record {
  one_each = names.one_each ∙ has.one_each;
  fit = λ dim inside. (let less : dim < length marks = omega (arith, has.one_each, inside) in omega (arith, names.inside dim less, has.counts dim inside));
}

-- the code of slices that aren't empty names them
pub packed_is_named : (shape : Shape) (marks : List (List ℕ)) (xs bytes : List ℕ) → IsShape shape → HasShape shape marks → NamesSlices marks xs → packed shape xs ≡ bytes → IsNamed shape marks bytes
packed_is_named shape marks xs bytes is has names same =
    let are = slices_named shape marks xs has names in
    let by : xs ≡ unpacked shape bytes = unpacked_is shape xs bytes is are same in
    record {
      are = subst (AreSlices shape) by are;
      same = ap (packed shape) (sym by) ∙ same;
      names = subst (NamesSlices marks) by names;
    }
