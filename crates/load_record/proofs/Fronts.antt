-- Each front of lines that lead somewhere is lines that lead no further, and a torn piece that holds no more.
use Rattle.std.proofs.Common.{◌≡◌, ℕ, ◌+◌, ◌≤◌, Bool, true, List, [], ◌∷◌, ◌++◌, length, drop, arith, ap, sym, refl, ◌∙◌, subst, length-append, inl, inr}
use Rattle.std.specs.List.{slice_split}
use Rattle.tape_image.specs.Word.{WordValue}
use Rattle.tape_image.specs.Plan.{PlanValue}
use Rattle.host_core.specs.declared.progress.Progress.{Progress}
use Rattle.load_record.specs.declared.version.Version.{Version}
use Rattle.load_record.specs.declared.version.Version.TheVariants.{First, Second}
use Rattle.load_record.specs.Lines.{HoldsWords}
use Rattle.load_record.specs.Reading.{Adds, against, Lead, is_line_end}
use Rattle.load_record.proofs.Runs.{torn_words, torn_short, torn_half, length-run_text}
use Rattle.load_record.proofs.Joined.{HasNoEnd, HaveNoEnd, no_end-split, ended-split, front_of, joined, front-no_end, holds-no_end}
use Rattle.load_record.proofs.Joined.Front.{inside, past}

adds-no_end : (version : Version) (plan : PlanValue) (line : List ℕ) (before after : Progress) → Adds (against version plan) line before after → HasNoEnd line
adds-no_end version plan line before after (inl w) = holds-no_end version line w.words w.holds
adds-no_end version plan line before after (inr m) = subst HasNoEnd (sym m.spelled) (refl, tt)

pub lead-no_end : (version : Version) (plan : PlanValue) (lines : List (List ℕ)) (before after : Progress) → Lead version plan lines before after → HaveNoEnd lines
lead-no_end version plan [] before after led = tt
lead-no_end version plan (line ∷ lines) before after led = (adds-no_end version plan line before led.0 led.1, lead-no_end version plan lines led.0 after led.2)

-- a front of a line holds no more words than the line
holds_front : (version : Version) (line front left : List ℕ) (words later : List WordValue) → HoldsWords version line words → front ++ left ≡ line
    → torn_words version (words ++ later) front ≤ length words
holds_front First line front left words later h e = omega arith
holds_front Second line front left words later (inl h) e =
    let none = torn_half h.word later front h.half in
    let here : torn_words Second (words ++ later) front ≡ 0 = ap (λ l. torn_words Second (l ++ later) front) h.alone ∙ none in
    omega arith
holds_front Second line front left words later (inr h) e =
    let n = length-run_text words h.run in
    let m = ap length h.spelled in
    let l = ap length e in
    let k = length-append front left in
    torn_short (words ++ later) front (length words) (omega arith)

short_front : (version : Version) (next : List WordValue) (front : List ℕ) → length front ≤ 6 → torn_words version next front ≤ 0
short_front First next front short = omega arith
short_front Second next front short = torn_short next front 0 (omega arith)

-- the empty piece holds no word
pub nothing_torn : (version : Version) (next : List WordValue) → torn_words version next [] ≡ 0
nothing_torn version next = let none = short_front version next [] (omega arith) in omega arith

adds_front : (version : Version) (plan : PlanValue) (line front left : List ℕ) (before after : Progress) → Adds (against version plan) line before after → front ++ left ≡ line
    → before.verified + torn_words version (drop before.verified plan.words) front ≤ after.verified
adds_front version plan line front left before after (inl w) e =
    let few = holds_front version line front left w.words w.later w.holds e in
    let n = ap (λ (p : Progress). p.verified) w.after_is in
    let m = ap (λ l. torn_words version l front) w.next in
    omega arith
adds_front version plan line front left before after (inr m) e =
    let l = ap length (e ∙ m.spelled) in
    let k = length-append front left in
    let none = short_front version (drop before.verified plan.words) front (omega arith) in
    let n = ap (λ (p : Progress). p.verified) m.after_is in
    omega arith

-- no line takes a word or the mark back
record Grows (before after : Progress) : Type 0 where
  pub verified : before.verified ≤ after.verified
  pub going : before.going ≡ true → after.going ≡ true

adds_grow : (version : Version) (plan : PlanValue) (line : List ℕ) (before after : Progress) → Adds (against version plan) line before after → Grows before after
adds_grow version plan line before after (inl w) =
    let n = ap (λ (p : Progress). p.verified) w.after_is in
    record { verified = omega arith; going = λ h. ap (λ (p : Progress). p.going) w.after_is ∙ h }
adds_grow version plan line before after (inr m) =
    let n = ap (λ (p : Progress). p.verified) m.after_is in
    record { verified = omega arith; going = λ h. ap (λ (p : Progress). p.going) m.after_is }

lead_grows : (version : Version) (plan : PlanValue) (lines : List (List ℕ)) (before after : Progress) → Lead version plan lines before after → Grows before after
lead_grows version plan [] before after led = subst (Grows before) (sym led) (record { verified = omega arith; going = λ h. h })
lead_grows version plan (line ∷ lines) before after led =
    let one = adds_grow version plan line before led.0 led.1 in
    let more = lead_grows version plan lines led.0 after led.2 in
    record { verified = let a = one.verified in let b = more.verified in omega arith; going = λ h. more.going (one.going h) }

-- each front of the piece holds at most so many of the next words
abbrev pub FrontsHold : Version → List WordValue → List ℕ → ℕ → Type 0
FrontsHold version next torn count = (front left : List ℕ) → front ++ left ≡ torn → torn_words version next front ≤ count

-- a text is read, from a progress on, as at most k words, and with the mark only where this is true
pub record IsCutRead (version : Version) (plan : PlanValue) (text : List ℕ) (before : Progress) (k : ℕ) (mark : Bool) : Type 0 where
  pub lines : List (List ℕ)
  pub torn : List ℕ
  pub reached : Progress
  pub cut : slice_split is_line_end text ≡ lines ++ torn ∷ []
  pub leads : Lead version plan lines before reached
  pub few : reached.verified + torn_words version (drop reached.verified plan.words) torn ≤ k
  pub marked : reached.going ≡ true → mark ≡ true

-- a front within one line
within_line : (version : Version) (plan : PlanValue) (line front left : List ℕ) (before next after : Progress) (k : ℕ)
    → Adds (against version plan) line before next → Grows next after → after.verified ≤ k → front ++ left ≡ line → IsCutRead version plan front before k after.going
within_line version plan line front left before next after k adds grows few e = record {
  lines = [];
  torn = front;
  reached = before;
  cut = no_end-split front (front-no_end front left (subst HasNoEnd (sym e) (adds-no_end version plan line before next adds)));
  leads = refl;
  few = let a = adds_front version plan line front left before next adds e in let b = grows.verified in omega arith;
  marked = λ h. grows.going ((adds_grow version plan line before next adds).going h);
}

-- a front past one line
past_line : (version : Version) (plan : PlanValue) (line front behind : List ℕ) (before next : Progress) (k : ℕ) (mark : Bool)
    → Adds (against version plan) line before next → front ≡ line ++ 10 ∷ behind → IsCutRead version plan behind next k mark → IsCutRead version plan front before k mark
past_line version plan line front behind before next k mark adds e more = record {
  lines = line ∷ more.lines;
  torn = more.torn;
  reached = more.reached;
  cut = ap (slice_split is_line_end) e ∙ ended-split line behind (adds-no_end version plan line before next adds) ∙ ap (λ l. line ∷ l) more.cut;
  leads = (next, adds, more.leads);
  few = more.few;
  marked = more.marked;
}

pub cut_leads : (version : Version) (plan : PlanValue) (lines : List (List ℕ)) (torn front rest : List ℕ) (before after : Progress) (k count : ℕ)
    → Lead version plan lines before after → HasNoEnd torn → FrontsHold version (drop after.verified plan.words) torn count → after.verified + count ≤ k
    → front ++ rest ≡ joined lines torn → IsCutRead version plan front before k after.going
cut_leads version plan [] torn front rest before after k count led last holds few e =
    subst (λ (p : Progress). IsCutRead version plan front p k after.going) led (record {
      lines = [];
      torn = front;
      reached = after;
      cut = no_end-split front (front-no_end front rest (subst HasNoEnd (sym e) last));
      leads = refl;
      few = let a = holds front rest e in omega arith;
      marked = λ h. h;
    })
cut_leads version plan (line ∷ lines) torn front rest before after k count led last holds few e =
    elim (front_of front rest line (joined lines torn) e) [
      | inside left f ↦ within_line version plan line front left before led.0 after k led.1 (lead_grows version plan lines led.0 after led.2) (omega arith) f
      | past behind f g ↦ past_line version plan line front behind before led.0 k after.going led.1 f (cut_leads version plan lines torn behind rest led.0 after k count led.2 last holds few g)
    ]
