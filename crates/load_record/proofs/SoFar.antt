-- How far a record is read.
use Rattle.std.proofs.Common.{◌≡◌, ◌↔◌, ℕ, ◌+◌, ◌<◌, ◌≤◌, List, [], ◌∷◌, ◌++◌, length, drop, arith, ap, sym, refl, ◌∙◌, subst, append_assoc, length-append, inr, Ok, Err, Option, Some, None}
use Rattle.std.specs.List.{slice_split}
use Rattle.std.proofs.lemmas.List.Splits.{length-slice_split}
use Rattle.host_core.specs.Opening.{refusal_of}
use Rattle.tape_image.specs.Plan.{PlanValue}
use Rattle.host_core.specs.declared.progress.Progress.{Progress}
use Rattle.load_record.specs.declared.version.Version.{Version}
use Rattle.load_record.specs.declared.reader.RecordError.TheVariants.{NotARecord, Foreign}
use Rattle.load_record.specs.Lines.{header}
use Rattle.load_record.specs.Reading.{Adds, against, Lead, nothing, is_line_end, HoldsTorn, Says}
use Rattle.load_record.proofs.Sound.{IsSound, nothing-sound, adds_sound, sound-accepted, torn_sound}

-- the lines before what is left lead from nothing to the progress, and the last of them has this number
pub record IsReadSoFar (plan : PlanValue) (input : List ℕ) (version : Version) (progress : Progress) (number : ℕ) (rest : List ℕ) : Type 0 where
  pub before : List (List ℕ)
  pub cut : slice_split is_line_end input ≡ header version ∷ (before ++ slice_split is_line_end rest)
  pub leads : Lead version plan before nothing progress
  pub number_is : number ≡ length before + 1
  pub fits : number + length rest ≤ length input
  pub sound : IsSound plan progress

-- lines lead on where the first do and the others do
pub lead-append : (version : Version) (plan : PlanValue) (lines others : List (List ℕ)) (before between after : Progress)
    → Lead version plan lines before between → Lead version plan others between after → Lead version plan (lines ++ others) before after
lead-append version plan [] others before between after a b = subst (λ p. Lead version plan others p after) a b
lead-append version plan (line ∷ lines) others before between after a b = (a.0, a.1, lead-append version plan lines others a.0 between after a.2 b)

pub begun_so_far : (plan : PlanValue) (input first rest : List ℕ) (version : Version) → slice_split is_line_end input ≡ first ∷ slice_split is_line_end rest
    → first ≡ header version → length rest < length input → IsReadSoFar plan input version nothing 1 rest
begun_so_far plan input first rest version cut named shorter = record {
  before = [];
  cut = cut ∙ ap (λ l. l ∷ slice_split is_line_end rest) named;
  leads = refl;
  number_is = refl;
  fits = omega arith;
  sound = nothing-sound plan;
}

pub line_more : (plan : PlanValue) (input line rest after : List ℕ) (version : Version) (progress next : Progress) (number : ℕ)
    → IsReadSoFar plan input version progress number rest → slice_split is_line_end rest ≡ line ∷ slice_split is_line_end after
    → length after < length rest → Adds (against version plan) line progress next → IsReadSoFar plan input version next (number + 1) after
line_more plan input line rest after version progress next number so_far split shorter adds = record {
  before = so_far.before ++ line ∷ [];
  cut = so_far.cut ∙ ap (λ l. header version ∷ (so_far.before ++ l)) split ∙ ap (λ l. header version ∷ l) (sym (append_assoc so_far.before (line ∷ []) (slice_split is_line_end after)));
  leads = lead-append version plan so_far.before (line ∷ []) nothing progress next so_far.leads (next, adds, refl);
  number_is = let n = so_far.number_is in let l = length-append so_far.before (line ∷ []) in omega arith;
  fits = let f = so_far.fits in omega arith;
  sound = adds_sound version plan line progress next adds so_far.sound;
}

-- the parts of a text are its lines and its torn piece
record IsEnded (parts : List (List ℕ)) : Type 0 where
  lines : List (List ℕ)
  torn : List ℕ
  parts_are : parts ≡ lines ++ torn ∷ []

some_ended : (x : List ℕ) (xs : List (List ℕ)) → IsEnded (x ∷ xs)
some_ended x [] = record { lines = []; torn = x; parts_are = refl }
some_ended x (y ∷ ys) = let e = some_ended y ys in record { lines = x ∷ e.lines; torn = e.torn; parts_are = ap (λ l. x ∷ l) e.parts_are }

list_ended : (parts : List (List ℕ)) → 0 < length parts → IsEnded parts
list_ended [] some = absurd (omega arith)
list_ended (x ∷ xs) some = some_ended x xs

ended : (text : List ℕ) → IsEnded (slice_split is_line_end text)
ended text = list_ended (slice_split is_line_end text) (omega (arith, length-slice_split is_line_end text))

pub no_header_said : (plan : PlanValue) (input first rest : List ℕ) (named : Option Version) → length input ≤ 1048576 → slice_split is_line_end input ≡ first ∷ slice_split is_line_end rest
    → ((version : Version) → (named ≡ Some version) ↔ (first ≡ header version)) → named ≡ None → Says plan input (Err NotARecord)
no_header_said plan input first rest named within cut names none =
    let e = ended rest in
    inr (
      within,
      record {
        line = first;
        later = e.lines;
        torn = e.torn;
        cut = record { pieces = cut ∙ ap (λ l. first ∷ l) e.parts_are };
        wrong = λ version h. let some = (names version).1 h in absurd (cc (some, none));
      },
    )

pub foreign_said : (plan : PlanValue) (input line rest after : List ℕ) (version : Version) (progress : Progress) (number : ℕ) (next : Option Progress)
    → length input ≤ 1048576 → IsReadSoFar plan input version progress number rest → slice_split is_line_end rest ≡ line ∷ slice_split is_line_end after
    → ((p : Progress) → (next ≡ Some p) ↔ Adds (against version plan) line progress p) → next ≡ None → Says plan input (Err (Foreign (number + 1)))
foreign_said plan input line rest after version progress number next within so_far split exact none =
    let e = ended after in (
      within,
      record {
        version = version;
        lines = so_far.before;
        line = line;
        later = e.lines;
        torn = e.torn;
        reached = progress;
        cut = record {
          pieces = so_far.cut ∙ ap (λ l. header version ∷ (so_far.before ++ l)) (split ∙ ap (λ l. line ∷ l) e.parts_are)
              ∙ ap (λ l. header version ∷ l) (sym (append_assoc so_far.before (line ∷ e.lines) (e.torn ∷ [])));
        };
        leads = so_far.leads;
        wrong = λ p adds. let some = (exact p).1 adds in absurd (cc (some, none));
        number_is = let n = so_far.number_is in omega arith;
      },
    )

pub record_said : (plan : PlanValue) (input rest : List ℕ) (version : Version) (progress : Progress) (number count : ℕ)
    → length input ≤ 1048576 → IsReadSoFar plan input version progress number rest → slice_split is_line_end rest ≡ rest ∷ []
    → HoldsTorn version rest (drop progress.verified plan.words) count
    → Says plan input (Ok (record { verified = progress.verified + count; going = progress.going }))
record_said plan input rest version progress number count within so_far split held = (
  within,
  inr record {
    version = version;
    lines = so_far.before;
    torn = rest;
    reached = progress;
    whole = count;
    cut = record { pieces = so_far.cut ∙ ap (λ l. header version ∷ (so_far.before ++ l)) split };
    leads = so_far.leads;
    held = held;
    counted = refl;
  },
)

pub record_accepted : (plan : PlanValue) (input rest : List ℕ) (version : Version) (progress : Progress) (number count : ℕ)
    → IsReadSoFar plan input version progress number rest → HoldsTorn version rest (drop progress.verified plan.words) count
    → refusal_of plan (progress.verified + count) progress.going ≡ None
record_accepted plan input rest version progress number count so_far held =
    sound-accepted plan (record { verified = progress.verified + count; going = progress.going }) (torn_sound version plan rest progress count so_far.sound held)
