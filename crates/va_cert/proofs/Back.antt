-- What was written is read back.
use Rattle.std.proofs.Common.{◌≡◌, ℕ, suc, ◌≤◌, ◌<◌, ◌^◌, Bool, true, false, decimal, IsUtf8, ◌++◌, List, [], ◌∷◌, map, codes, Some, option_and_then, sym, ap, ◌∙◌, append-nil, refl, arith}
use Rattle.std.specs.Option.{option_map}
use Rattle.std.specs.List.{AllByRecursion}
use Rattle.std.proofs.lemmas.Fmt.{IsAscii-decimal}
use Rattle.std.proofs.lemmas.Str.{IsUtf8-append, IsUtf8-nil, IsUtf8-from_ascii, is_utf8-from_IsUtf8}
use Rattle.json.proofs.Printed.Utf8.{are_ascii, IsUtf8-are_ascii, IsUtf8-quoted}
use Rattle.json.specs.Print.{quoted}
use Rattle.json.specs.Lex.{tokens}
use Rattle.json.specs.Json as json
use Rattle.json.specs.Tree as tree
use Rattle.json.proofs.Printed.Decimals.{IsNumber-decimal}
use Rattle.json.proofs.Printed.Trees.{ArePrintable-json_tokens, value-json_tokens}
use Rattle.json.proofs.Printed.Tokens.{tokens-print}
use Rattle.serde_json.proofs.OnLiterals.{serde_json_on_literals}
use Rattle.serde_json.proofs.Texts.{print-outline}
use Rattle.serde_json.proofs.Numbers.{number_of-decimal}
use Rattle.serde_json.specs.Data.{Data, Items, Members, no_members, member, number, unsigned, object}
use Rattle.serde_json.specs.Read.{read, of_json, of_items, of_members, max_depth}
use Rattle.serde_json.specs.View.{items_of}
use Rattle.serde_json.specs.Written.{compact_text, items_text, members_text, comma_if, outline, items_outline, members_outline}
use Rattle.va_core.specs.declared.pair.Pair.{Pair}
use Rattle.va_cert.specs.declared.certificate.BoxRow.{BoxRow}
use Rattle.va_cert.specs.declared.certificate.Taken.{Taken}
use Rattle.va_cert.specs.declared.certificate.Certificate.{Certificate}
use Rattle.va_cert.specs.Text.{list, whole, wholes, pair_data, row_data, taken_data, data_of, text_of, Fits}
use Rattle.va_cert.specs.Reads.{value_of}

number_back : (n : ℕ) → n < 2 ^ 64 → of_json (outline (number (unsigned n))) ≡ Some (number (unsigned n))
number_back n fits = rw (number_of-decimal n fits) refl

law : (d : Data) → tree.HasNumbers (outline d) → tree.depth (outline d) ≤ max_depth → of_json (outline d) ≡ Some d → read (compact_text d) ≡ Some d
law d numbers shallow back =
    let toks : tokens (compact_text d) ≡ tree.json_tokens (outline d) =
    ap tokens (sym (print-outline d)) ∙ tokens-print _ (ArePrintable-json_tokens (outline d) numbers) in
    ap (λ ts. option_and_then of_json (option_and_then (λ p. json.if_last p.0 p.1) (json.value max_depth ts))) (toks ∙ sym (append-nil _))
    ∙ (ap (λ o. option_and_then of_json (option_and_then (λ p. json.if_last p.0 p.1) o)) (value-json_tokens (outline d) max_depth [] shallow)
    ∙ back)

-- data that is written and read back
pub record Good (depth : ℕ) (d : Data) : Type 0 where
  numbers : tree.HasNumbers (outline d)
  shallow : tree.depth (outline d) ≤ depth
  back : of_json (outline d) ≡ Some d
  utf8 : IsUtf8 (compact_text d)

record GoodItems (depth : ℕ) (ds : Items) : Type 0 where
  numbers : tree.ItemsHaveNumbers (items_outline ds)
  shallow : tree.items_depth (items_outline ds) ≤ depth
  back : of_items (items_outline ds) ≡ Some ds
  utf8 : (later : Bool) → IsUtf8 (items_text later ds)

comma : (later : Bool) → IsUtf8 (comma_if later)
comma true = IsUtf8-are_ascii (44 ∷ []) refl
comma false = IsUtf8-nil

good_whole : (n : ℕ) → n < 2 ^ 64 → Good 0 (whole n)
good_whole n h = record { numbers = IsNumber-decimal n h; shallow = omega arith; back = number_back n h; utf8 = IsUtf8-from_ascii (decimal n) (IsAscii-decimal n h) }

deeper : (m n : ℕ) (d : Data) → m ≤ n → Good m d → Good n d
deeper m n d h g = let s : tree.depth (outline d) ≤ m = g.shallow in record { numbers = g.numbers; shallow = omega (arith, s, h); back = g.back; utf8 = g.utf8 }

good_items : (depth : ℕ) (ds : List Data) → AllByRecursion (Good depth) ds → GoodItems depth (items_of ds)
good_items depth [] h = record { numbers = tt; shallow = omega arith; back = refl; utf8 = λ later. IsUtf8-are_ascii (93 ∷ []) refl }
good_items depth (d ∷ ds) h =
    let g : Good depth d = h.0 in
    let r : GoodItems depth (items_of ds) = good_items depth ds h.1 in
    let a : tree.depth (outline d) ≤ depth = g.shallow in
    let b : tree.items_depth (items_outline (items_of ds)) ≤ depth = r.shallow in
    let e : of_json (outline d) ≡ Some d = g.back in
    let f : of_items (items_outline (items_of ds)) ≡ Some (items_of ds) = r.back in record {
      numbers = (g.numbers, r.numbers);
      shallow = omega (arith, a, b);
      back = rw (e, f) refl;
      utf8 = λ later. IsUtf8-append (comma_if later) (compact_text d ++ items_text true (items_of ds)) (comma later) (IsUtf8-append (compact_text d) (items_text true (items_of ds)) g.utf8 (r.utf8 true));
    }

good_list : (depth : ℕ) (ds : List Data) → AllByRecursion (Good depth) ds → Good (suc depth) (list ds)
good_list depth ds h =
    let r : GoodItems depth (items_of ds) = good_items depth ds h in
    let b : tree.items_depth (items_outline (items_of ds)) ≤ depth = r.shallow in
    let f : of_items (items_outline (items_of ds)) ≡ Some (items_of ds) = r.back in record {
      numbers = r.numbers;
      shallow = omega (arith, b);
      back = rw f refl;
      utf8 = IsUtf8-append (91 ∷ []) (items_text false (items_of ds)) (IsUtf8-are_ascii (91 ∷ []) refl) (r.utf8 false);
    }

all_good : {A : Type 0} (depth : ℕ) (f : A → Data) (P : A → Type 0) → ((a : A) → P a → Good depth (f a)) → (l : List A) → AllByRecursion P l → AllByRecursion (Good depth) (map f l)
all_good depth f P each [] h = tt
all_good depth f P each (a ∷ l) h = (each a h.0, all_good depth f P each l h.1)

good_wholes : (most : ℕ) (ns : List ℕ) → most ≤ 2 ^ 64 → AllByRecursion (λ n. n < most) ns → Good 1 (wholes ns)
good_wholes most ns le h = good_list 0 (map whole ns) (all_good 0 whole (λ n. n < most) (λ n b. good_whole n (omega (arith, b, le))) ns h)

good_pair : (p : Pair) → (p.id < 2 ^ 32) × (p.dist < 2 ^ 64) → Good 1 (pair_data p)
good_pair p h = let i : p.id < 2 ^ 32 = h.0 in good_list 0 (whole p.id ∷ whole p.dist ∷ []) (good_whole p.id (omega (arith, i)), (good_whole p.dist h.1, tt))

good_three : (id : ℕ) (a b : List ℕ) → (id < 2 ^ 32) × AllByRecursion (λ v. v < 256) a × AllByRecursion (λ v. v < 256) b → Good 2 (list (whole id ∷ wholes a ∷ wholes b ∷ []))
good_three id a b h = let i : id < 2 ^ 32 = h.0 in good_list 1 (whole id ∷ wholes a ∷ wholes b ∷ [])
    (deeper 0 1 (whole id) (omega arith) (good_whole id (omega (arith, i))), (good_wholes 256 a (omega arith) h.1, (good_wholes 256 b (omega arith) h.2, tt)))

-- the six members
keys_back : (a b c d e f : Data) → of_json (outline a) ≡ Some a → of_json (outline b) ≡ Some b → of_json (outline c) ≡ Some c → of_json (outline d) ≡ Some d → of_json (outline e) ≡ Some e → of_json (outline f) ≡ Some f →
    of_members (members_outline (member (codes "answer") a (member (codes "boxes") b (member (codes "fetched") c (member (codes "k") d (member (codes "objects") e (member (codes "weights") f no_members))))))) no_members
    ≡ Some (member (codes "answer") a (member (codes "boxes") b (member (codes "fetched") c (member (codes "k") d (member (codes "objects") e (member (codes "weights") f no_members))))))
unfolding serde_json_on_literals
keys_back a b c d e f ha hb hc hd he hf = rw (ha, hb, hc, hd, he, hf) refl

-- the text of a member and what follows
member_utf8 : (later : Bool) (key : List ℕ) (d : Data) (rest : Members) → are_ascii key ≡ true → IsUtf8 (compact_text d) → IsUtf8 (members_text true rest) → IsUtf8 (members_text later (member key d rest))
member_utf8 later key d rest k h r =
    IsUtf8-append (comma_if later) (quoted key ++ 58 ∷ (compact_text d ++ members_text true rest)) (comma later)
    (IsUtf8-append (quoted key) (58 ∷ (compact_text d ++ members_text true rest)) (IsUtf8-quoted key (IsUtf8-are_ascii key k))
    (IsUtf8-append (58 ∷ []) (compact_text d ++ members_text true rest) (IsUtf8-are_ascii (58 ∷ []) refl) (IsUtf8-append (compact_text d) (members_text true rest) h r)))

six_utf8 : (a b c d e f : Data) → IsUtf8 (compact_text a) → IsUtf8 (compact_text b) → IsUtf8 (compact_text c) → IsUtf8 (compact_text d) → IsUtf8 (compact_text e) → IsUtf8 (compact_text f) →
    IsUtf8 (compact_text (object (member (codes "answer") a (member (codes "boxes") b (member (codes "fetched") c (member (codes "k") d (member (codes "objects") e (member (codes "weights") f no_members))))))))
six_utf8 a b c d e f ua ub uc ud ue uf =
    IsUtf8-append (123 ∷ []) (members_text false (member (codes "answer") a (member (codes "boxes") b (member (codes "fetched") c (member (codes "k") d (member (codes "objects") e (member (codes "weights") f no_members))))))) (IsUtf8-are_ascii (123 ∷ []) refl)
    (member_utf8 false (codes "answer") a (member (codes "boxes") b (member (codes "fetched") c (member (codes "k") d (member (codes "objects") e (member (codes "weights") f no_members))))) refl ua
    (member_utf8 true (codes "boxes") b (member (codes "fetched") c (member (codes "k") d (member (codes "objects") e (member (codes "weights") f no_members)))) refl ub
    (member_utf8 true (codes "fetched") c (member (codes "k") d (member (codes "objects") e (member (codes "weights") f no_members))) refl uc
    (member_utf8 true (codes "k") d (member (codes "objects") e (member (codes "weights") f no_members)) refl ud
    (member_utf8 true (codes "objects") e (member (codes "weights") f no_members) refl ue
    (member_utf8 true (codes "weights") f no_members refl uf (IsUtf8-are_ascii (125 ∷ []) refl)))))))

good_six : (a b c d e f : Data) → Good 3 a → Good 3 b → Good 3 c → Good 3 d → Good 3 e → Good 3 f →
    Good 4 (object (member (codes "answer") a (member (codes "boxes") b (member (codes "fetched") c (member (codes "k") d (member (codes "objects") e (member (codes "weights") f no_members)))))))
good_six a b c d e f ga gb gc gd ge gf =
    let sa : tree.depth (outline a) ≤ 3 = ga.shallow in let sb : tree.depth (outline b) ≤ 3 = gb.shallow in let sc : tree.depth (outline c) ≤ 3 = gc.shallow in
    let sd : tree.depth (outline d) ≤ 3 = gd.shallow in let se : tree.depth (outline e) ≤ 3 = ge.shallow in let sf : tree.depth (outline f) ≤ 3 = gf.shallow in record {
      numbers = (ga.numbers, (gb.numbers, (gc.numbers, (gd.numbers, (ge.numbers, (gf.numbers, tt))))));
      shallow = omega (arith, sa, sb, sc, sd, se, sf);
      back = ap (option_map object) (keys_back a b c d e f ga.back gb.back gc.back gd.back ge.back gf.back);
      utf8 = six_utf8 a b c d e f ga.utf8 gb.utf8 gc.utf8 gd.utf8 ge.utf8 gf.utf8;
    }

good_data : (c : Certificate) → Fits c → Good 4 (data_of c)
good_data c h =
    let a : Good 3 (list (map pair_data c.answer)) = deeper 2 3 (list (map pair_data c.answer)) (omega arith) (good_list 1 (map pair_data c.answer) (all_good 1 pair_data (λ (p : Pair). (p.id < 2 ^ 32) × (p.dist < 2 ^ 64)) good_pair c.answer h.answer)) in
    let b : Good 3 (list (map row_data c.boxes)) = good_list 2 (map row_data c.boxes) (all_good 2 row_data (λ (row : BoxRow). (row.id < 2 ^ 32) × AllByRecursion (λ v. v < 256) row.low × AllByRecursion (λ v. v < 256) row.high) (λ row g. good_three row.id row.low row.high g) c.boxes h.boxes) in
    let f : Good 3 (list (map taken_data c.fetched)) = good_list 2 (map taken_data c.fetched) (all_good 2 taken_data (λ (taken : Taken). (taken.id < 2 ^ 32) × AllByRecursion (λ v. v < 256) taken.vector × AllByRecursion (λ v. v < 256) taken.other) (λ taken g. good_three taken.id taken.vector taken.other g) c.fetched h.fetched) in
    let kk : c.k < 2 ^ 16 = h.k in
    let k : Good 3 (whole c.k) = deeper 0 3 (whole c.k) (omega arith) (good_whole c.k (omega (arith, kk))) in
    let o : Good 3 (list (map wholes c.objects)) = deeper 2 3 (list (map wholes c.objects)) (omega arith) (good_list 1 (map wholes c.objects) (all_good 1 wholes (λ (x : List ℕ). AllByRecursion (λ v. v < 256) x) (λ x g. good_wholes 256 x (omega arith) g) c.objects h.objects)) in
    let w : Good 3 (wholes c.weights) = deeper 1 3 (wholes c.weights) (omega arith) (good_wholes (2 ^ 16) c.weights (omega arith) h.weights) in
    good_six (list (map pair_data c.answer)) (list (map row_data c.boxes)) (list (map taken_data c.fetched)) (whole c.k) (list (map wholes c.objects)) (wholes c.weights) a b f k o w

-- the text of a certificate is the JSON of its data
pub value_back : (c : Certificate) → Fits c → value_of (text_of c) ≡ Some (data_of c)
value_back c h =
    let g : Good 4 (data_of c) = good_data c h in
    let s : tree.depth (outline (data_of c)) ≤ 4 = g.shallow in
    rw (is_utf8-from_IsUtf8 (text_of c) g.utf8) (law (data_of c) g.numbers (omega (arith, s)) g.back)
