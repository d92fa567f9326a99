-- What writes one after another leave.
use Rattle.std.proofs.Common.{◌≡◌, ℕ, List, [], Option, Some, None, refl, ◌∙◌, subst, Result, Ok, Err, OnOk, OnErr, IfOk}
use Rattle.std.proofs.KnownBytes.{Appends-nil}
use Rattle.std.specs.Io.KnownBytes.{Appends, Keeps}
use Rattle.byte_io.specs.Output.{WritesPrefix, WritesProperPrefix}

-- what was written stays
pub Appends-kept : (a b c : Option (List ℕ)) (text : List ℕ) → Appends a b text → Keeps b c → Appends a c text
Appends-kept None b c text p q = tt
Appends-kept (Some x) None c text p q = absurd p
Appends-kept (Some x) (Some y) None text p q = absurd q
Appends-kept (Some x) (Some y) (Some z) text p q = q ∙ p

-- a front of nothing new
pub no_front : (a b : Option (List ℕ)) (text : List ℕ) → Keeps a b → WritesPrefix a b text
no_front a b text kept = (text, record { written = []; whole = refl; appended = Appends-kept a a b [] (Appends-nil a) kept })

-- a front stays written
pub front_kept : (a b c : Option (List ℕ)) (text : List ℕ) → WritesPrefix a b text → Keeps b c → WritesPrefix a c text
front_kept a b c text part kept = (
  part.0,
  record {
    written = part.1.written;
    whole = part.1.whole;
    appended = Appends-kept a b c part.1.written part.1.appended kept;
  },
)

-- the same of an equal text
pub ok_same : {T E : Type 0} (r : Result T E) (a b : Option (List ℕ)) (text other : List ℕ) → text ≡ other → OnOk r (Appends a b text) → OnOk r (Appends a b other)
ok_same r a b text other e h = subst (λ l. OnOk r (Appends a b l)) e h

-- what an error leaves
pub on_err : {T E : Type 0} (r : Result T E) (P : Type 0) → P → OnErr r P
on_err (Ok x) P p = tt
on_err (Err e) P p = p

pub if_ok_map : {T E : Type 0} (r : Result T E) (P Q : T → Type 0) → ((x : T) → P x → Q x) → IfOk r P → IfOk r Q
if_ok_map (Ok x) P Q f p = f x p
if_ok_map (Err e) P Q f p = tt

pub on_err_map : {T E : Type 0} (r : Result T E) (P Q : Type 0) → (P → Q) → OnErr r P → OnErr r Q
on_err_map (Ok x) P Q f p = tt
on_err_map (Err e) P Q f p = f p

pub on_ok_map : {T E : Type 0} (r : Result T E) (P Q : Type 0) → (P → Q) → OnOk r P → OnOk r Q
on_ok_map (Ok x) P Q f p = f p
on_ok_map (Err e) P Q f p = tt

-- a prefix of an equal text
pub err_same : {T E : Type 0} (r : Result T E) (a b : Option (List ℕ)) (text other : List ℕ) → text ≡ other → OnErr r (WritesProperPrefix a b text) → OnErr r (WritesProperPrefix a b other)
err_same r a b text other e h = subst (λ l. OnErr r (WritesProperPrefix a b l)) e h
