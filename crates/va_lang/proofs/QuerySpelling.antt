-- Vectors, weights and queries have one spelling.
use Rattle.std.proofs.Common.{◌≡◌, ◌==◌, ℕ, ◌^◌, ◌<◌, ◌≤◌, Bool, true, false, List, [], ◌∷◌, ◌++◌, Option, Some, None, take, drop, map, decimal, codes, if◌then◌else◌, refl, ap, sym, ◌∙◌, subst, lit<, lit≤, ◌&&◌, IfSome}
use Rattle.std.specs.Option.{option_map}
use Rattle.std.specs.Str.{bytes_eq}
use Rattle.std.proofs.lemmas.List.{take-append-drop}
use Rattle.std.proofs.lemmas.Slice.Eq.{bytes_eq-Decides}
use Rattle.va_lang.specs.Command.{Query}
use Rattle.va_lang.specs.Grammar.{number_below, separated, vector_of, objects_of, weights_of, weighing, weighed, query_of}
use Rattle.va_lang.specs.Spelling.{list_text, weights_words, query_words, IsList, IsVector, IsQuery}
use Rattle.va_lang.specs.Texts.{joined}
use Rattle.va_lang.proofs.Numerals.{number_spelled, number_back}
use Rattle.va_lang.proofs.Separated.{all_lack}
use Rattle.va_lang.proofs.Spelled.{separated_spelled, separated_back, separated_lacks}
use Rattle.va_core.proofs.Tests.{both_and}
use Rattle.va_core.specs.Texts.{lacks}
use Rattle.va_core.proofs.Texts.{lacks_both, decimal_lacks}

-- a word is the text that it was compared with
pub same_word : (word text : List ℕ) → bytes_eq word text ≡ true → word ≡ text
same_word word text e = (bytes_eq-Decides word text).0 e

module _ (limit : ℕ) (fits : limit ≤ 2 ^ 64) where
  list_spelled : (text numbers : List ℕ) → separated 44 256 (number_below limit) text ≡ Some numbers →
      (text ≡ list_text numbers) × IsList 256 (λ n. n < limit) numbers
  list_spelled text numbers e = separated_spelled 44 256 (number_below limit) decimal (λ n. n < limit) (number_spelled limit fits) text numbers e

  list_back : (numbers : List ℕ) → IsList 256 (λ n. n < limit) numbers → separated 44 256 (number_below limit) (list_text numbers) ≡ Some numbers
  list_back numbers is = separated_back 44 256 (number_below limit) decimal (λ n. n < limit) (number_back limit fits) (λ n. decimal_lacks 44 n (lit< tt)) numbers is

-- a list holds neither a space nor a slash
list_lacks : (byte : ℕ) → byte < 48 → (44 == byte) ≡ false → (numbers : List ℕ) → lacks byte (list_text numbers) ≡ true
list_lacks byte low other numbers = separated_lacks 44 256 (number_below (2 ^ 8)) decimal (λ n. n < 2 ^ 8) byte other (λ n. decimal_lacks byte n low) numbers

pub list_lacks_space : (numbers : List ℕ) → lacks 32 (list_text numbers) ≡ true
list_lacks_space numbers = list_lacks 32 (lit< tt) refl numbers

pub vector_spelled : (text vector : List ℕ) → vector_of text ≡ Some vector → (text ≡ list_text vector) × IsVector vector
vector_spelled text vector e = list_spelled (2 ^ 8) (lit≤ tt) text vector e

pub vector_back : (vector : List ℕ) → IsVector vector → vector_of (list_text vector) ≡ Some vector
vector_back vector is = list_back (2 ^ 8) (lit≤ tt) vector is

objects_spelled : (text : List ℕ) (objects : List (List ℕ)) → objects_of text ≡ Some objects →
    (text ≡ joined 47 (map list_text objects)) × IsList 16 IsVector objects
objects_spelled text objects e = separated_spelled 47 16 vector_of list_text IsVector vector_spelled text objects e

objects_back : (objects : List (List ℕ)) → IsList 16 IsVector objects → objects_of (joined 47 (map list_text objects)) ≡ Some objects
objects_back objects is = separated_back 47 16 vector_of list_text IsVector vector_back (λ vector. list_lacks 47 (lit< tt) refl vector) objects is

objects_lack_space : (objects : List (List ℕ)) → lacks 32 (joined 47 (map list_text objects)) ≡ true
objects_lack_space objects = separated_lacks 47 16 vector_of list_text IsVector 32 refl list_lacks_space objects

weights_at : (named : Bool) (word weights : List ℕ) → bytes_eq (take 2 word) (codes "w=") ≡ named →
    (if named then separated 44 256 (number_below (2 ^ 16)) (drop 2 word) else None) ≡ Some weights →
    (word ≡ codes "w=" ++ list_text weights) × IsList 256 (λ n. n < 2 ^ 16) weights
weights_at true word weights is_named e =
    let list = list_spelled (2 ^ 16) (lit≤ tt) (drop 2 word) weights e in (
      sym (take-append-drop 2 word) ∙ ap (λ (l : List ℕ). l ++ drop 2 word) (same_word (take 2 word) (codes "w=") is_named)
          ∙ ap (λ (l : List ℕ). codes "w=" ++ l) list.0,
      list.1,
    )
weights_at false word weights is_named e = cc

weights_spelled : (word weights : List ℕ) → weights_of word ≡ Some weights → (word ≡ codes "w=" ++ list_text weights) × IsList 256 (λ n. n < 2 ^ 16) weights
weights_spelled word weights e = weights_at (bytes_eq (take 2 word) (codes "w=")) word weights refl e

-- these words spell this query, whose numbers are in range
pub record SpellsQuery (words : List (List ℕ)) (query : Query) : Type 0 where
  pub are : words ≡ query_words query
  pub ranges : IsQuery query

-- the words behind the objects spell the weights, if there are some
record SpellsWeights (words : List (List ℕ)) (weights : Option (List ℕ)) : Type 0 where
  are : words ≡ weights_words weights
  ranges : IfSome weights (λ weights. IsList 256 (λ n. n < 2 ^ 16) weights)

some_weights : (word : List ℕ) (read : Option (List ℕ)) (weights : Option (List ℕ)) → weights_of word ≡ read →
    option_map (λ weights. Some weights) read ≡ Some weights → SpellsWeights (word ∷ []) weights
some_weights word None weights is e = cc
some_weights word (Some list) weights is e =
    let same : Some list ≡ weights = cc in
    let spelled = weights_spelled word list is in
    let P : Option (List ℕ) → Type 0 = λ w. SpellsWeights (word ∷ []) w in
    subst P same (record { are = ap (λ (l : List ℕ). l ∷ []) spelled.0; ranges = spelled.1 })

weighing_spelled : (words : List (List ℕ)) (weights : Option (List ℕ)) → weighing words ≡ Some weights → SpellsWeights words weights
weighing_spelled [] weights e =
    let same : None ≡ weights = cc in
    let P : Option (List ℕ) → Type 0 = λ w. SpellsWeights [] w in
    subst P same (record { are = refl; ranges = tt })
weighing_spelled (word ∷ []) weights e = some_weights word (weights_of word) weights refl e
weighing_spelled (word ∷ second ∷ words) weights e = cc

weighed_at : (text : List ℕ) (words : List (List ℕ)) (objects : Option (List (List ℕ))) (weights : Option (Option (List ℕ))) (query : Query) → objects_of text ≡ objects →
    weighing words ≡ weights → weighed objects weights ≡ Some query → SpellsQuery (text ∷ words) query
weighed_at text words None weights query read weighs e = cc
weighed_at text words (Some objects) None query read weighs e = cc
weighed_at text words (Some objects) (Some weights) query read weighs e =
    let all = objects_spelled text objects read in
    let further = weighing_spelled words weights weighs in
    let same : record { objects = objects; weights = weights } ≡ query = cc in
    let P : Query → Type 0 = λ q. SpellsQuery (text ∷ words) q in
    subst P same (record { are = rw (all.0, further.are) refl; ranges = record { objects = all.1; weights = further.ranges } })

pub query_spelled : (words : List (List ℕ)) (query : Query) → query_of words ≡ Some query → SpellsQuery words query
query_spelled [] query e = cc
query_spelled (text ∷ words) query e = weighed_at text words (objects_of text) (weighing words) query refl refl e

pub weights_back : (weights : List ℕ) → IsList 256 (λ n. n < 2 ^ 16) weights → weights_of (codes "w=" ++ list_text weights) ≡ Some weights
weights_back weights is = list_back (2 ^ 16) (lit≤ tt) weights is

pub query_back : (objects : List (List ℕ)) (weights : Option (List ℕ)) → IsQuery (record { objects = objects; weights = weights }) →
    query_of (query_words (record { objects = objects; weights = weights })) ≡ Some (record { objects = objects; weights = weights })
query_back objects None is = rw (objects_back objects is.objects) refl
query_back objects (Some weights) is = rw (objects_back objects is.objects, weights_back weights is.weights) refl

-- no word of a query holds a space
pub query_lacks : (objects : List (List ℕ)) (weights : Option (List ℕ)) → all_lack 32 (query_words (record { objects = objects; weights = weights })) ≡ true
query_lacks objects None = both_and (lacks 32 (joined 47 (map list_text objects))) true (objects_lack_space objects) refl
query_lacks objects (Some weights) =
    both_and (lacks 32 (joined 47 (map list_text objects))) (lacks 32 (codes "w=" ++ list_text weights) && true) (objects_lack_space objects)
    (both_and (lacks 32 (codes "w=" ++ list_text weights)) true (lacks_both 32 (codes "w=") (list_text weights) refl (list_lacks_space weights)) refl)
