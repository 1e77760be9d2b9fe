-- The line of a command is read back.
use Rattle.std.proofs.Common.{◌≡◌, ℕ, ◌^◌, ◌<◌, ◌≤◌, true, false, List, [], ◌∷◌, Some, length, decimal, eqb, refl, ap, ◌∙◌, lit<, lit≤, arith}
use Rattle.std.proofs.lemmas.Bool.Decides.{nat_tests}
use Rattle.va_lang.specs.Command.{Query, Command, create, insert, delete, get, stat, marks, knn, ssa, range, «open», next, close, requant, convert, cert}
use Rattle.va_lang.specs.Grammar.{number_below, asking, command_of_words, command_of}
use Rattle.va_lang.specs.Spelling.{list_text, query_words, command_words, command_text, IsQuery, IsCommand}
use Rattle.va_lang.proofs.Numerals.{number_back}
use Rattle.va_lang.proofs.QuerySpelling.{vector_back, query_back, query_lacks, list_lacks_space}
use Rattle.va_lang.proofs.Separated.{split_joined, all_lack}
use Rattle.va_core.proofs.Tests.{both_and}
use Rattle.va_core.specs.Texts.{lacks}
use Rattle.va_core.proofs.Texts.{decimal_lacks}

u16 : (n : ℕ) → n < 2 ^ 16 → number_below (2 ^ 16) (decimal n) ≡ Some n
u16 n less = number_back (2 ^ 16) (lit≤ tt) n less

u32 : (n : ℕ) → n < 2 ^ 32 → number_below (2 ^ 32) (decimal n) ≡ Some n
u32 n less = number_back (2 ^ 32) (lit≤ tt) n less

u64 : (n : ℕ) → n < 2 ^ 64 → number_below (2 ^ 64) (decimal n) ≡ Some n
u64 n less = number_back (2 ^ 64) (lit≤ tt) n less

name : (n : ℕ) → n < 64 → number_below 64 (decimal n) ≡ Some n
name n less = number_back 64 (lit≤ tt) n less

-- a number with its query
asked_back : (limit : ℕ) (make : ℕ → Query → Command) (n : ℕ) (query : Query) → number_below limit (decimal n) ≡ Some n → IsQuery query →
    asking limit make (decimal n ∷ query_words query) ≡ Some (make n query)
asked_back limit make n query is asked = rw (query_back query.objects query.weights asked, is) refl

words_back : (command : Command) → IsCommand command → command_of_words (command_words command) ≡ Some command
words_back (create dims bits capacity) is = rw (u16 dims is.0, u16 bits is.1, u32 capacity is.2) refl
words_back (insert id vector) is = rw (u32 id is.0, vector_back vector is.1) refl
words_back (delete id) is = rw (u32 id is) refl
words_back (get id) is = rw (u32 id is) refl
words_back stat is = refl
words_back marks is = refl
words_back (knn k query) is = asked_back (2 ^ 16) (λ k query. knn k query) k query (u16 k is.0) is.1
words_back (ssa k query) is = asked_back (2 ^ 16) (λ k query. ssa k query) k query (u16 k is.0) is.1
words_back (range radius query) is = asked_back (2 ^ 64) (λ radius query. range radius query) radius query (u64 radius is.0) is.1
words_back («open» cursor query) is = asked_back 64 (λ cursor query. «open» cursor query) cursor query (name cursor is.0) is.1
words_back (next cursor) is = rw (name cursor is) refl
words_back (close cursor) is = rw (name cursor is) refl
words_back requant is = refl
words_back (convert n) is =
    let some : eqb n 0 ≡ false = not_zero n is.0 in
    rw (u32 n is.1) (rw some refl)
  where
    not_zero : (n : ℕ) → 1 ≤ n → eqb n 0 ≡ false
    not_zero n some = grind (arith, nat_tests)
words_back (cert k query) is = asked_back (2 ^ 16) (λ k query. cert k query) k query (u16 k is.0) is.1

-- a number and the words behind it hold no space
number_lacks : (n : ℕ) (words : List (List ℕ)) → all_lack 32 words ≡ true → all_lack 32 (decimal n ∷ words) ≡ true
number_lacks n words e = both_and (lacks 32 (decimal n)) (all_lack 32 words) (decimal_lacks 32 n (lit< tt)) e

words_lack : (command : Command) → all_lack 32 (command_words command) ≡ true
words_lack (create dims bits capacity) = number_lacks dims (decimal bits ∷ decimal capacity ∷ []) (number_lacks bits (decimal capacity ∷ []) (number_lacks capacity [] refl))
words_lack (insert id vector) = number_lacks id (list_text vector ∷ []) (both_and (lacks 32 (list_text vector)) true (list_lacks_space vector) refl)
words_lack (delete id) = number_lacks id [] refl
words_lack (get id) = number_lacks id [] refl
words_lack stat = refl
words_lack marks = refl
words_lack (knn k query) = number_lacks k (query_words query) (query_lacks query.objects query.weights)
words_lack (ssa k query) = number_lacks k (query_words query) (query_lacks query.objects query.weights)
words_lack (range radius query) = number_lacks radius (query_words query) (query_lacks query.objects query.weights)
words_lack («open» cursor query) = number_lacks cursor (query_words query) (query_lacks query.objects query.weights)
words_lack (next cursor) = number_lacks cursor [] refl
words_lack (close cursor) = number_lacks cursor [] refl
words_lack requant = refl
words_lack (convert n) = number_lacks n [] refl
words_lack (cert k query) = number_lacks k (query_words query) (query_lacks query.objects query.weights)

some_words : (command : Command) → 0 < length (command_words command)
some_words (create dims bits capacity) = lit< tt
some_words (insert id vector) = lit< tt
some_words (delete id) = lit< tt
some_words (get id) = lit< tt
some_words stat = lit< tt
some_words marks = lit< tt
some_words (knn k query) = omega arith
some_words (ssa k query) = omega arith
some_words (range radius query) = omega arith
some_words («open» cursor query) = omega arith
some_words (next cursor) = lit< tt
some_words (close cursor) = lit< tt
some_words requant = lit< tt
some_words (convert n) = lit< tt
some_words (cert k query) = omega arith

pub command_back : (command : Command) → IsCommand command → command_of (command_text command) ≡ Some command
command_back command is =
    ap command_of_words (split_joined 32 (command_words command) (some_words command) (words_lack command)) ∙ words_back command is
