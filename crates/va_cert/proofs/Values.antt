-- The data of values in a list.
use Rattle.std.proofs.Common.{◌≡◌, ℕ, false, List, [], ◌∷◌, map, Vec, Global, refl}
use Rattle.serde_json.proofs.Views.{view-Array}
use Rattle.serde_json.specs.Data.{Data}
use Rattle.serde_json.specs.View.{view}
use Rattle.serde_json.specs.Written.{has_float}
use Rattle.serde_json.specs.declared.value.Value.{Value, Array}
use Rattle.va_cert.specs.declared.certificate.BoxRow.{BoxRow}
use Rattle.va_cert.specs.declared.certificate.Taken.{Taken}
use Rattle.va_cert.specs.declared.certificate.Certificate.{Certificate}
use Rattle.va_cert.specs.Text.{list, whole, wholes, pair_data, row_data, taken_data, data_of}

pub view_of_list : (values : Vec Value Global) → view (Array values) ≡ list (map view values.items)
view_of_list values = view-Array values

-- no number of a certificate is a float
no_float_list : {A : Type 0} (f : A → Data) → ((a : A) → has_float (f a) ≡ false) → (l : List A) → has_float (list (map f l)) ≡ false
no_float_list f h [] = refl
no_float_list f h (a ∷ l) = let rest : has_float (list (map f l)) ≡ false = no_float_list f h l in rw (h a) rest

wholes_none : (ns : List ℕ) → has_float (wholes ns) ≡ false
wholes_none ns = no_float_list whole (λ n. refl) ns

three_none : (id : ℕ) (a b : List ℕ) → has_float (list (whole id ∷ wholes a ∷ wholes b ∷ [])) ≡ false
three_none id a b = rw (wholes_none a, wholes_none b) refl

pub no_floats : (c : Certificate) → has_float (data_of c) ≡ false
no_floats c =
    rw (
      no_float_list pair_data (λ p. refl) c.answer,
      no_float_list row_data (λ (r : BoxRow). three_none r.id r.low r.high) c.boxes,
      no_float_list taken_data (λ (t : Taken). three_none t.id t.vector t.other) c.fetched,
      no_float_list wholes wholes_none c.objects,
      wholes_none c.weights,
    ) refl
