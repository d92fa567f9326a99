-- A failure that says of what place a name of a request is.
use Rattle.std.proofs.Common.{◌≡◌, ◌<◌, ℕ, zero, suc, List, [], ◌∷◌, ◌++◌, length, get_or, Option, Some, None, IfSome, inl, inr, refl, ap, sym, subst, arith}
use Rattle.std.specs.Borrow.{Bor}
use Rattle.std.specs.Option.{option_or}
use Rattle.endings.specs.declared.failure.Failure.{Failure}
use Rattle.endings.specs.declared.failure.Failure.TheVariants.{Misplaced}
use Rattle.endings.specs.declared.place.Place.TheVariants as place
use Rattle.request_values.specs.declared.request.PrintRequest.{PrintRequest}
use Rattle.request_values.specs.declared.request.PrintRequest.TheVariants.{CheckInput, Check, Dialogue, Rehearse, «Type» as TypeKeys}
use Rattle.request_values.specs.declared.request.Rehearsal.{Rehearsal}
use Rattle.tape_commands.specs.Printing.{AreNamesOf}
use Rattle.tape_commands.specs.declared.printing.InputNames.TheVariants.{Tapes, Scripted}
use Rattle.ldaodt.specs.Names.{IsOut, NamesTold}
use Rattle.ldaodt.specs.Misplaced.{IsAmong, IsOfPlace, NameAt, inputs_at, tapes_at}

among_left : (name : NameAt) (xs ys : List NameAt) → IsAmong name xs → IsAmong name (xs ++ ys)
among_left name [] ys h = absurd h
among_left name (x ∷ xs) ys (inl is) = inl is
among_left name (x ∷ xs) ys (inr h) = inr (among_left name xs ys h)

among_right : (name : NameAt) (xs ys : List NameAt) → IsAmong name ys → IsAmong name (xs ++ ys)
among_right name [] ys h = h
among_right name (x ∷ xs) ys h = inr (among_right name xs ys h)

-- what is said of one of some names is said of one of more
pub before_more : (failure : Failure) (xs ys : List NameAt) → IsOfPlace xs failure → IsOfPlace (xs ++ ys) failure
before_more (Misplaced name at) xs ys h = among_left (name, at) xs ys h
before_more _ xs ys h = absurd h

pub behind_more : (failure : Failure) (xs ys : List NameAt) → IsOfPlace ys failure → IsOfPlace (xs ++ ys) failure
behind_more (Misplaced name at) xs ys h = among_right (name, at) xs ys h
behind_more _ xs ys h = absurd h

pub some_behind : (found : Option Failure) (xs ys : List NameAt) → IfSome found (IsOfPlace ys) → IfSome found (IsOfPlace (xs ++ ys))
some_behind None xs ys h = tt
some_behind (Some failure) xs ys h = behind_more failure xs ys h

-- one of two failures
pub either : (found first other : Option Failure) (xs ys : List NameAt) → found ≡ option_or first other → IfSome first (IsOfPlace xs) → IfSome other (IsOfPlace ys)
    → IfSome found (IsOfPlace (xs ++ ys))
either found (Some failure) other xs ys is one two = subst (λ f. IfSome f (IsOfPlace (xs ++ ys))) (sym is) (before_more failure xs ys one)
either found None other xs ys is one two = subst (λ f. IfSome f (IsOfPlace (xs ++ ys))) (sym is) (some_behind other xs ys two)

-- either of them is said of a name that is out of place
pub either_out : (told : NamesTold) (found first other : Option Failure) → found ≡ option_or first other → IfSome first (IsOut told) → IfSome other (IsOut told)
    → IfSome found (IsOut told)
either_out told found (Some failure) other is one two = subst (λ f. IfSome f (IsOut told)) (sym is) one
either_out told found None other is one two = subst (λ f. IfSome f (IsOut told)) (sym is) two

-- one of the tapes
tape_at : (names : List (Bor (List ℕ))) (i : ℕ) (d : Bor (List ℕ)) → i < length names → IsAmong (get_or names i d, place.Tape) (tapes_at names)
tape_at [] i d within = let no : ⊥ = omega (arith, within) in absurd no
tape_at (name ∷ names) zero d within = inl refl
tape_at (name ∷ names) (suc i) d within = inr (tape_at names i d (omega (arith, within)))

pub one_tape : (names : List (Bor (List ℕ))) (i : ℕ) (d : Bor (List ℕ)) (failure : Failure) → i < length names → IsOfPlace ((get_or names i d, place.Tape) ∷ []) failure
    → IsOfPlace (tapes_at names) failure
one_tape names i d (Misplaced name at) within (inl is) = subst (λ n. IsAmong n (tapes_at names)) (sym is) (tape_at names i d within)
one_tape names i d (Misplaced name at) within (inr h) = absurd h
one_tape names i d _ within h = absurd h

-- ---- what the names of a request that only prints are

pub named_tapes : (request : PrintRequest) (tapes : Bor (List (Bor (List ℕ)))) → AreNamesOf request (Tapes tapes) → tapes_at tapes.now ≡ inputs_at request
named_tapes (Check names options) tapes is = ap tapes_at is
named_tapes (Dialogue names stage) tapes is = ap tapes_at is
named_tapes CheckInput tapes is = absurd is
named_tapes (Rehearse rehearsal) tapes is = absurd is
named_tapes (TypeKeys console) tapes is = absurd is

-- those of a rehearsal
abbrev pub rehearsed_at : Rehearsal → List NameAt
rehearsed_at rehearsal = (rehearsal.tape, place.Tape) ∷ (rehearsal.script, place.Script) ∷ tapes_at rehearsal.more.items

pub named_files : (request : PrintRequest) (rehearsal : Bor Rehearsal) → AreNamesOf request (Scripted rehearsal) → rehearsed_at rehearsal.now ≡ inputs_at request
named_files (Rehearse rehearsal) scripted is = ap rehearsed_at is
named_files (Check names options) scripted is = absurd is
named_files (Dialogue names stage) scripted is = absurd is
named_files CheckInput scripted is = absurd is
named_files (TypeKeys console) scripted is = absurd is
