-- What is left of what was read ahead.
use Rattle.std.proofs.Common.{◌≡◌, ◌≤◌, ◌<◌, ◌+◌, ℕ, List, [], ◌∷◌, ◌++◌, length, take, slice_set, slice_index_or, Option, Some, None, ap, sym, ◌∙◌, arith, append_assoc}
use Rattle.std.proofs.lemmas.List.{drop_all, drop_more, get_or-take, length-take, length-take-le}
use Rattle.std.specs.Prelude.{Result}
use Rattle.std.specs.Io.KnownBytes.{Consumes, ReadConsumes, prepend_known}
use Rattle.console_lines.proofs.FirstByte.{first_set}
use Rattle.console_lines.specs.ReadAhead.{left_ahead}

-- the first of them, and those behind it
first_left : (bytes : List ℕ) (given filled : ℕ) → given < filled → filled ≤ length bytes
    → left_ahead bytes given filled ≡ slice_index_or bytes given 0 ∷ left_ahead bytes (given + 1) filled
first_left bytes given filled more room =
    drop_more (take filled bytes) given 0 (omega (arith, more, room, length-take-le filled bytes room))
    ∙ ap (λ b. b ∷ left_ahead bytes (given + 1) filled) (get_or-take filled bytes given 0 more)

pub gives_first : (bytes : List ℕ) (given filled : ℕ) (buf : List ℕ) → given < filled → filled ≤ length bytes → 0 < length buf
    → left_ahead bytes given filled ≡ take 1 (slice_set buf 0 (slice_index_or bytes given 0)) ++ left_ahead bytes (given + 1) filled
gives_first bytes given filled buf more room space =
    first_left bytes given filled more room
    ∙ ap (λ l. l ++ left_ahead bytes (given + 1) filled) (sym (first_set buf (slice_index_or bytes given 0) space))

-- some are left where fewer were given than were read
pub some_left : (bytes : List ℕ) (given filled : ℕ) → given < filled → filled ≤ length bytes → left_ahead bytes given filled ≡ [] → ⊥
some_left bytes given filled more room none = let some : left_ahead bytes given filled ≡ slice_index_or bytes given 0 ∷ left_ahead bytes (given + 1) filled = first_left bytes given filled more room in cc

-- and none where as many were given
pub none_left : (bytes : List ℕ) (given filled : ℕ) → filled ≤ given → left_ahead bytes given filled ≡ []
none_left bytes given filled all = drop_all given (take filled bytes) (omega (arith, all, length-take filled bytes))

unsome : {x y : List ℕ} → Some y ≡ Some x → y ≡ x
unsome is = cc

-- what is given is taken of what is still to come
pub taken_of : (a b : Option (List ℕ)) (old new front : List ℕ) → b ≡ a → old ≡ front ++ new → Consumes (prepend_known old a) (prepend_known new b) front
taken_of None b old new front same is = tt
taken_of (Some x) None old new front same is = absurd cc
taken_of (Some x) (Some y) old new front same is = ap (λ l. l ++ x) is ∙ append_assoc front new x ∙ ap (λ o. front ++ (new ++ o)) (sym (unsome same))

-- where none is left a read is one of the stream itself
pub reads_itself : {E : Type 0} (a b : Option (List ℕ)) (old new : List ℕ) (result : Result ℕ E) (buf : List ℕ) → old ≡ [] → new ≡ []
    → ReadConsumes a b result buf → ReadConsumes (prepend_known old a) (prepend_known new b) result buf
reads_itself None None [] [] result buf none none' so = so
reads_itself None (Some y) [] [] result buf none none' so = so
reads_itself (Some x) None [] [] result buf none none' so = so
reads_itself (Some x) (Some y) [] [] result buf none none' so = so
reads_itself a b (byte ∷ more) new result buf none none' so = absurd cc
reads_itself a b [] (byte ∷ more) result buf none none' so = absurd cc
