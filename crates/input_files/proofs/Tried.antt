-- Names that were tried one behind the other.
use Rattle.std.proofs.Common.{◌≡◌, ◌<◌, ◌≤◌, ◌+◌, ℕ, suc, Bool, true, false, List, [], ◌∷◌, ◌++◌, Option, Some, None, Result, Ok, Err, is_ok, length, take, drop, refl, sym, subst, get_or, append_assoc, append-nil, drop-cons}
use Rattle.std.proofs.lemmas.List.{take-append-drop, take_all, take_more}
use Rattle.std.specs.Bool.{OnTrue}
use Rattle.std.specs.Io.KnownBytes.{Keeps}
use Rattle.std.specs.List.{AllZip}
use Rattle.std.specs.Prelude.{OnErr}
use Rattle.std.specs.Result.{IfOk, IfErr, IsErr, IsErrAnd}
use Rattle.host_devices.proofs.Told.{tells_join, tells_none}
use Rattle.host_devices.specs.Told.{HasAsked, Tells}
use Rattle.endings.specs.declared.failure.Failure.{Failure}
use Rattle.endings.specs.declared.failure.Failure.TheVariants.{CannotRead, NoMemory}
use Rattle.input_files.specs.Opening.{Name, InputStep, NotOpened, opening, given_by, IsTried, Once, Again, AreTried, AllOpen, Opens, Shut, NoRoom, NoRoomToRetry, AreAdded, IsUnbuffered}
use Rattle.input_files.proofs.Errors.{error_is}
use Rattle.input_files.proofs.Left.{all_kept, one_added, left_joined}

-- ---- what an error says

pub not_ok : {A E : Type 0} (P : A → Type 0) (result : Result A E) → IsErr result → IfOk result P
not_ok P (Ok value) is = absurd (cc is)
not_ok P (Err error) is = tt

pub on_err : {A E X : Type 0} (result : Result A E) → X → OnErr result X
on_err (Ok value) x = tt
on_err (Err error) x = x

pub on_true : {X : Type 0} (test : Bool) → OnTrue test X → test ≡ true → X
on_true true x is = x
on_true false x is = absurd (cc is)

-- ---- one name

pub none_given : {F E : Type 0} (remaining : F → Option (List ℕ)) (opened : Result F E) → is_ok opened ≡ false → given_by remaining opened ≡ None
none_given remaining (Ok file) is = absurd (cc is)
none_given remaining (Err error) is = refl

pub once : (name : List ℕ) (given : Option (Option (List ℕ))) (all : List (Option (List ℕ))) (a b : Option (List InputStep)) → Tells a b (opening name given ∷ [])
    → HasAsked a b (λ steps. IsTried name given steps × AllZip Keeps all all)
once name given all a b told = (opening name given ∷ [], told, (Once given, all_kept all))

-- what is told of a file that did not open
pub refused : (name : List ℕ) (given : Option (Option (List ℕ))) (a b : Option (List InputStep)) → given ≡ None → Tells a b (opening name given ∷ []) → Tells a b (NotOpened name ∷ [])
refused name given a b is told = subst (λ o. Tells a b (opening name o ∷ [])) is told

pub again : (name : List ℕ) (given : Option (Option (List ℕ))) (all left : List (Option (List ℕ))) (a b c : Option (List InputStep)) → Tells a b (NotOpened name ∷ [])
    → Tells b c (opening name given ∷ []) → AllZip Keeps all left → HasAsked a c (λ steps. IsTried name given steps × AllZip Keeps all left)
again name given all left a b c first second kept = (
  NotOpened name ∷ opening name given ∷ [],
  tells_join a b c (NotOpened name ∷ []) (opening name given ∷ []) first second,
  (Again given, kept),
)

-- a name that was tried, and its file put behind a buffer
pub buffered : {F E : Type 0} (remaining : F → Option (List ℕ)) (name : Name) (opened : Result F E) (given : Option (List ℕ)) (others left : List (Option (List ℕ))) (a b : Option (List InputStep))
    → given_by remaining opened ≡ Some given → HasAsked a b (λ steps. IsTried name.now (given_by remaining opened) steps × AllZip Keeps others left)
    → HasAsked a b (AreAdded (name ∷ []) others (left ++ given ∷ []))
buffered remaining name opened given others left a b is tried =
    let once : IsTried name.now (Some given) tried.0 = subst (λ o. IsTried name.now o tried.0) is tried.2.0 in (
      tried.0,
      tried.1,
      (
        subst (AreTried (name ∷ []) None) (append-nil tried.0) (Opens name [] None given tried.0 [] once AllOpen),
        one_added name.now given others left tried.0 once tried.2.1,
      ),
    )

-- .. or not
unbuffered_as : {F E : Type 0} (remaining : F → Option (List ℕ)) (name : Name) (opened : Result F E) (failure : Failure) (steps : List InputStep) → IsUnbuffered name (is_ok opened) failure
    → IsTried name.now (given_by remaining opened) steps → AreTried (name ∷ []) (Some failure) steps
unbuffered_as remaining name (Ok file) (CannotRead other) steps is tried = absurd (cc is.1)
unbuffered_as remaining name (Ok file) NoMemory steps is tried =
    subst (AreTried (name ∷ []) (Some NoMemory)) (append-nil steps) (Opens name [] (Some NoMemory) (remaining file) steps [] tried (NoRoom []))
unbuffered_as remaining name (Ok file) other steps is tried = absurd is
unbuffered_as remaining name (Err error) (CannotRead other) steps is tried =
    subst (λ n. AreTried (name ∷ []) (Some (CannotRead n)) steps) (sym is.0) (Shut name [] steps tried)
unbuffered_as remaining name (Err error) NoMemory steps is tried = absurd (cc is)
unbuffered_as remaining name (Err error) other steps is tried = absurd is

pub unbuffered : {F E : Type 0} (remaining : F → Option (List ℕ)) (name : Name) (opened : Result F E) (failure : Failure) (others left : List (Option (List ℕ))) (a b : Option (List InputStep))
    → IsUnbuffered name (is_ok opened) failure → HasAsked a b (λ steps. IsTried name.now (given_by remaining opened) steps × AllZip Keeps others left)
    → HasAsked a b (AreTried (name ∷ []) (Some failure))
unbuffered remaining name opened failure others left a b is tried = (tried.0, tried.1, unbuffered_as remaining name opened failure tried.0 is tried.2.0)

pub no_retry : (name : Name) (a b : Option (List InputStep)) → Tells a b (NotOpened name.now ∷ []) → HasAsked a b (AreTried (name ∷ []) (Some NoMemory))
no_retry name a b told = (NotOpened name.now ∷ [], told, NoRoomToRetry name [])

-- ---- several

-- what is so of some names is so of them before others, once one of them has failed
before_others : (xs ys : List Name) (end : Option Failure) (failure : Failure) (steps : List InputStep) → AreTried xs end steps → end ≡ Some failure
    → AreTried (xs ++ ys) end steps
before_others xs ys end failure steps AllOpen is = absurd (cc is)
before_others xs ys end failure steps (Opens name names end' given first rest t r) is =
    Opens name (names ++ ys) end' given first rest t (before_others names ys end' failure rest r is)
before_others xs ys end failure steps (Shut name names tries t) is = Shut name (names ++ ys) tries t
before_others xs ys end failure steps (NoRoom names) is = NoRoom (names ++ ys)
before_others xs ys end failure steps (NoRoomToRetry name names) is = NoRoomToRetry name (names ++ ys)

-- and behind others that are open
behind_others : (xs ys : List Name) (end last : Option Failure) (a b : List InputStep) → AreTried xs end a → end ≡ None → AreTried ys last b
    → AreTried (xs ++ ys) last (a ++ b)
behind_others xs ys end last a b AllOpen is h = h
behind_others xs ys end last a b (Opens name names end' given first rest t r) is h =
    subst (AreTried (name ∷ (names ++ ys)) last) (sym (append_assoc first rest b))
    (Opens name (names ++ ys) last given first (rest ++ b) t (behind_others names ys end' last rest b r is h))
behind_others xs ys end last a b (Shut name names tries t) is h = absurd (cc is)
behind_others xs ys end last a b (NoRoom names) is h = absurd (cc is)
behind_others xs ys end last a b (NoRoomToRetry name names) is h = absurd (cc is)

failed_first : (xs ys : List Name) (failure : Failure) (a b : Option (List InputStep)) → HasAsked a b (AreTried xs (Some failure))
    → HasAsked a b (AreTried (xs ++ ys) (Some failure))
failed_first xs ys failure a b h = (h.0, h.1, before_others xs ys (Some failure) failure h.0 h.2 refl)

opened_first : (xs ys : List Name) (end : Option Failure) (a b c : Option (List InputStep)) → HasAsked a b (AreTried xs None)
    → HasAsked b c (AreTried ys end) → HasAsked a c (AreTried (xs ++ ys) end)
opened_first xs ys end a b c h k = (h.0 ++ k.0, tells_join a b c h.0 k.0 h.1 k.1, behind_others xs ys None end h.0 k.0 h.2 refl k.2)

-- these are open, and then there is no room for them
pub no_room : (xs ys : List Name) (a b : Option (List InputStep)) → HasAsked a b (AreTried xs None) → HasAsked a b (AreTried (xs ++ ys) (Some NoMemory))
no_room xs ys a b h = opened_first xs ys (Some NoMemory) a b b h ([], tells_none b, NoRoom ys)

-- what is known of the error that a result has
pub failed_as : {T : Type 0} (names : List Name) (result : Result T Failure) (failure : Failure) (a b : Option (List InputStep)) → IsErrAnd result (λ e. e ≡ failure)
    → HasAsked a b (AreTried names (Some failure)) → IfErr result (λ e. HasAsked a b (AreTried names (Some e)))
failed_as names result failure a b is h = error_is result failure (λ e. HasAsked a b (AreTried names (Some e))) is h

-- what was opened was tried
pub tried_of : (names : List Name) (others left : List (Option (List ℕ))) (a b : Option (List InputStep)) → HasAsked a b (AreAdded names others left) → HasAsked a b (AreTried names None)
tried_of names others left a b h = (h.0, h.1, h.2.0)

pub added_more : (xs ys : List Name) (others between left : List (Option (List ℕ))) (a b c : Option (List InputStep)) → HasAsked a b (AreAdded xs others between)
    → HasAsked b c (AreAdded ys between left) → HasAsked a c (AreAdded (xs ++ ys) others left)
added_more xs ys others between left a b c h k = (
  h.0 ++ k.0,
  tells_join a b c h.0 k.0 h.1 k.1,
  (behind_others xs ys None None h.0 k.0 h.2.0 refl k.2.0, left_joined others between left h.0 k.0 h.2.1 k.2.1),
)

-- ---- one name after another

pub none_added : (names : List Name) (others : List (Option (List ℕ))) (a : Option (List InputStep)) → HasAsked a a (AreAdded (take 0 names) others others)
none_added names others a = ([], tells_none a, (AllOpen, subst (λ l. AllZip Keeps l others) (sym (append-nil others)) (all_kept others)))

parts : (names : List Name) (i : ℕ) (d : Name) → i < length names → take i names ++ (get_or names i d ∷ drop (suc i) names) ≡ names
parts names i d within = subst (λ rest. take i names ++ rest ≡ names) (drop-cons names i d within) (take-append-drop i names)

pub one_more : (names : List Name) (i : ℕ) (d : Name) (others between left : List (Option (List ℕ))) (a b c : Option (List InputStep)) → i < length names
    → HasAsked a b (AreAdded (take i names) others between) → HasAsked b c (AreAdded (get_or names i d ∷ []) between left)
    → HasAsked a c (AreAdded (take (i + 1) names) others left)
one_more names i d others between left a b c within before here =
    subst (λ l. HasAsked a c (AreAdded l others left)) (sym (take_more names i d within))
    (added_more (take i names) (get_or names i d ∷ []) others between left a b c before here)

pub stops_here : (names : List Name) (i : ℕ) (d : Name) (failure : Failure) (others between : List (Option (List ℕ))) (a b c : Option (List InputStep)) → i < length names
    → HasAsked a b (AreAdded (take i names) others between) → HasAsked b c (AreTried (get_or names i d ∷ []) (Some failure)) → HasAsked a c (AreTried names (Some failure))
stops_here names i d failure others between a b c within before here =
    subst (λ l. HasAsked a c (AreTried l (Some failure))) (parts names i d within)
    (opened_first (take i names) (get_or names i d ∷ drop (suc i) names) (Some failure) a b c (tried_of (take i names) others between a b before)
    (failed_first (get_or names i d ∷ []) (drop (suc i) names) failure b c here))

pub no_room_here : (names : List Name) (i : ℕ) (d : Name) (others between left : List (Option (List ℕ))) (a b c : Option (List InputStep)) → i < length names
    → HasAsked a b (AreAdded (take i names) others between) → HasAsked b c (AreAdded (get_or names i d ∷ []) between left) → HasAsked a c (AreTried names (Some NoMemory))
no_room_here names i d others between left a b c within before here =
    subst (λ l. HasAsked a c (AreTried l (Some NoMemory))) (parts names i d within)
    (opened_first (take i names) (get_or names i d ∷ drop (suc i) names) (Some NoMemory) a b c (tried_of (take i names) others between a b before)
    (no_room (get_or names i d ∷ []) (drop (suc i) names) b c (tried_of (get_or names i d ∷ []) between left b c here)))

pub all_open : (names : List Name) (i : ℕ) (others left : List (Option (List ℕ))) (a b : Option (List InputStep)) → length names ≤ i → HasAsked a b (AreAdded (take i names) others left)
    → HasAsked a b (AreAdded names others left)
all_open names i others left a b over h = subst (λ l. HasAsked a b (AreAdded l others left)) (take_all i names over) h

-- ---- a tape, a script and further tapes

pub tape_fails : (tape script : Name) (more : List Name) (failure : Failure) (a b : Option (List InputStep)) → HasAsked a b (AreTried (tape ∷ []) (Some failure))
    → HasAsked a b (AreTried (tape ∷ script ∷ more) (Some failure))
tape_fails tape script more failure a b h = failed_first (tape ∷ []) (script ∷ more) failure a b h

pub script_fails : (tape script : Name) (more : List Name) (failure : Failure) (first : List (Option (List ℕ))) (a b c : Option (List InputStep)) → HasAsked a b (AreAdded (tape ∷ []) [] first)
    → HasAsked b c (AreTried (script ∷ []) (Some failure)) → HasAsked a c (AreTried (tape ∷ script ∷ more) (Some failure))
script_fails tape script more failure first a b c h k =
    opened_first (tape ∷ []) (script ∷ more) (Some failure) a b c (tried_of (tape ∷ []) [] first a b h) (failed_first (script ∷ []) more failure b c k)

pub more_fails : (tape script : Name) (more : List Name) (failure : Failure) (first second : List (Option (List ℕ))) (a b c d : Option (List InputStep))
    → HasAsked a b (AreAdded (tape ∷ []) [] first) → HasAsked b c (AreAdded (script ∷ []) first second) → HasAsked c d (AreTried more (Some failure))
    → HasAsked a d (AreTried (tape ∷ script ∷ more) (Some failure))
more_fails tape script more failure first second a b c d h k l =
    opened_first (tape ∷ []) (script ∷ more) (Some failure) a b d (tried_of (tape ∷ []) [] first a b h)
    (opened_first (script ∷ []) more (Some failure) b c d (tried_of (script ∷ []) first second b c k) l)

pub with_more : (tape script : Name) (more : List Name) (first second left : List (Option (List ℕ))) (a b c d : Option (List InputStep)) → HasAsked a b (AreAdded (tape ∷ []) [] first)
    → HasAsked b c (AreAdded (script ∷ []) first second) → HasAsked c d (AreAdded more second left) → HasAsked a d (AreAdded (tape ∷ script ∷ more) [] left)
with_more tape script more first second left a b c d h k l =
    added_more (tape ∷ []) (script ∷ more) [] first left a b d h (added_more (script ∷ []) more first second left b c d k l)
