-- What the runs of a probe leave, over honest lines.
use Rattle.std.proofs.Common.{◌≡◌, ℕ, ◌+◌, ◌^◌, ◌<◌, Bool, true, false, List, [], ◌∷◌, ◌++◌, length, get_or, Option, Some, None, Ok, Err, inl, inr, refl, arith, ap, sym, subst, ◌∙◌}
use Rattle.std.proofs.lemmas.Bool.{eq-eqb}
use Rattle.std.proofs.lemmas.List.Elements.{All-nil, All-cons}
use Rattle.tape_image.specs.Memory.{top_of}
use Rattle.odt_machine.specs.Machine.{Machine, word_at}
use Rattle.host_devices.specs.declared.item.Item.{Item}
use Rattle.honest_line.specs.Honest.{IsHonest}
use Rattle.machine_probe.specs.declared.search.Search.{Search}
use Rattle.machine_probe.specs.declared.search.Search.TheVariants as search
use Rattle.machine_probe.specs.MemoryEnd.{IsTrueEnd}
use Rattle.looking_law.specs.Rows.{AreHonest}
use Rattle.probe_report.specs.declared.findings.TrialFindings.{TrialFindings}
use Rattle.probe_report.specs.declared.findings.Extent.{Extent}
use Rattle.probe_report.specs.declared.findings.Extent.TheVariants as extent
use Rattle.probe_report.specs.declared.findings.Findings.{Findings}
use Rattle.probe_report.specs.declared.findings.Sighting.{Sighting}
use Rattle.probe_report.specs.declared.findings.Sighting.TheVariants as look
use Rattle.probe_report.specs.declared.findings.TrialEnd.{TrialEnd}
use Rattle.probe_report.specs.declared.findings.TrialEnd.TheVariants as trial
use Rattle.probe_report.specs.Judging.{on_looks, on_numbers, on_same_number, verdict_of}
use Rattle.reading_core.specs.declared.phase.End.TheVariants.{Complete, GaveUp, NoWord}
use Rattle.reading_core.specs.Addresses.{AreAddresses, IsAddress}
use Rattle.reading_core.specs.Laws.{led}
use Rattle.reading_core.specs.Reader.{Reader}
use Rattle.reading_core.proofs.Lives.{led_addresses}
use Rattle.looking_law.specs.Belief.{IsReadyMachine}
use Rattle.looking_engine.specs.Stopping.{LookStop, TrialStop}
use Rattle.engine.specs.declared.stop.Cut.TheVariants.{LineFailed, TurnsOver}
use Rattle.looking_engine.specs.Session.{IsSaid}
use Rattle.looking_law.specs.Again.{looker}
use Rattle.looking_law.specs.Runs.{Look, Run, Try, dialogue_of}
use Rattle.looking_law.specs.Trying.{IsToldOf}
use Rattle.looking_law.proofs.Runs.{IsHarmless, run_harmless}
use Rattle.looking_law.proofs.Told.{told_honest}
use Rattle.machine_probe.specs.declared.probe_options.ProbeOptions.{ProbeOptions}
use Rattle.machine_probe.specs.Belief.{AreBelievable}
use Rattle.machine_probe.specs.Came.{extent_of, first_of, sighting_of}
use Rattle.machine_probe.specs.Follow.{IsProbe, IsTried, IsTriedOut, CountedWhere, MadeWhere, forgets, goes_on, is_number, number_in, stores}
use Rattle.machine_probe.specs.Runs.{LooksAt, IsSearch, IsTrialOf}

-- ---- what was said is a dialogue, perhaps without its last key

pub told_look : (stop : LookStop) (left : ℕ) (all said : List Item) → IsSaid (Some stop) left all said → IsToldOf all said
told_look (Ok end) left all said is = inl is
told_look (Err TurnsOver) left all said is = inl is.0
told_look (Err (LineFailed fault)) left all said (inl whole) = inl whole.0
told_look (Err (LineFailed fault)) left all said (inr lacks) = inr lacks

pub told_trial : (stop : TrialStop) (left : ℕ) (all said : List Item) → IsSaid (Some stop) left all said → IsToldOf all said
told_trial (Ok end) left all said is = inl is
told_trial (Err TurnsOver) left all said is = inl is.0
told_trial (Err (LineFailed fault)) left all said (inl whole) = inl whole.0
told_trial (Err (LineFailed fault)) left all said (inr lacks) = inr lacks

-- ---- one run

pub one_address : (address : ℕ) → IsAddress address → AreAddresses (address ∷ [])
one_address address is = record {
  each = All-cons IsAddress address [] is (All-nil IsAddress);
  rising = λ i j d before low. absurd (omega (arith, before, low));
  few = omega arith;
}

-- what a run leaves that ended at a machine
record Leaves (machine now : Machine) : Type 0 where
  pub ready : IsReadyMachine now
  pub memory : now.memory ≡ machine.memory

-- a number that a look gives is the first that was read
is_first : (stop : LookStop) (values : List ℕ) (number : ℕ) → look.Number number ≡ sighting_of stop (first_of values) → (0 < length values) × (get_or values 0 0 ≡ number)
is_first (Ok Complete) [] number is = absurd (cc is)
is_first (Ok Complete) (value ∷ more) number is = (omega arith, cc is)
is_first (Ok GaveUp) values number is = absurd (cc is)
is_first (Ok (NoWord address)) values number is = absurd (cc is)
is_first (Err cut) values number is = absurd (cc is)

-- what a look leaves
record LookLeaves (options : ProbeOptions) (changed : ℕ) (found : Option Sighting) (machine now : Machine) : Type 0 where
  pub ready : IsReadyMachine now
  pub memory : now.memory ≡ machine.memory
  pub number : (number : ℕ) → found ≡ Some (look.Number number) → number ≡ word_at machine.memory options.address
  pub unchanged : changed ≡ 0

look_right : (options : ProbeOptions) (changed : ℕ) (sighting : Sighting) (parts : List (List Item)) (machine now : Machine) (lost : ℕ) → IsAddress options.address → options.patience < 2 ^ 32 →
    (l : LooksAt options changed sighting parts) → IsReadyMachine machine → IsHonest machine l.said lost now → LookLeaves options changed (Some sighting) machine now
look_right options changed sighting parts machine now lost address long l ready honest =
    let s = l.inquired in
    let run : Run = Look (options.address ∷ []) options.patience s.heard in
    let front : IsToldOf (dialogue_of run) l.said = subst (IsToldOf (dialogue_of run)) (sym s.on_line) (told_look l.stop _ (dialogue_of run) s.said s.items) in
    let h : IsHarmless machine run lost now = run_harmless run machine now lost ready (one_address options.address address, long) (told_honest (dialogue_of run) l.said machine now lost front honest) in record {
      ready = h.ready;
      memory = h.memory;
      number = λ number is.
          let first = is_first l.stop l.last.values number (sym (same is) ∙ l.sighting_is) in
          let values : l.last.values ≡ (led (looker options.address options.patience) s.heard).values = ap (λ (r : Reader). r.values) s.host in
          let holds = h.learned.read.holds 0 (subst (λ (list : List ℕ). 0 < length list) values first.0) in
          sym first.1 ∙ ap (λ (list : List ℕ). get_or list 0 0) values ∙ holds ∙ ap (λ (list : List ℕ). word_at machine.memory (get_or list 0 0)) (led_addresses (looker options.address options.patience) s.heard);
      unchanged = l.changed_is ∙ ap (λ (r : Reader). r.foreign) s.host ∙ h.learned.foreign;
    }
  where
    same : {a b : Sighting} → Some a ≡ Some b → a ≡ b
    same e = cc e

trial_leaves : (options : ProbeOptions) (old : ℕ) (attempt : TrialFindings) (parts : List (List Item)) (machine now : Machine) (lost : ℕ) → IsAddress options.address → options.patience < 2 ^ 32 →
    (t : IsTrialOf options old attempt parts) → IsReadyMachine machine → IsHonest machine t.said lost now → Leaves machine now
trial_leaves options old attempt parts machine now lost address long t ready honest =
    let s = t.conducted in
    let run : Run = Try options.address old options.patience s.heard in
    let front : IsToldOf (dialogue_of run) t.said = subst (IsToldOf (dialogue_of run)) (sym s.on_line) (told_trial t.stop _ (dialogue_of run) s.said s.items) in
    let h : IsHarmless machine run lost now = run_harmless run machine now lost ready (address, long) (told_honest (dialogue_of run) t.said machine now lost front honest) in
    record { ready = h.ready; memory = h.memory }

-- ---- rows

pub split : (machine now : Machine) (xs ys : List (List Item)) (lost : ℕ) → AreHonest machine (xs ++ ys) lost now → (between : Machine) × (first : ℕ) × (later : ℕ) × AreHonest machine xs first between × AreHonest between ys later now
split machine now [] ys lost honest = (machine, 0, lost, (refl, refl), honest)
split machine now (said ∷ xs) ys lost (between, first, later, here, there, all) =
    let rest = split between now xs ys later there in
    (rest.0, first + rest.1, rest.2, (between, first, rest.1, here, rest.3, refl), rest.4)

-- nothing was said
none_leaves : (machine now : Machine) (parts : List (List Item)) (lost : ℕ) → parts ≡ [] → IsReadyMachine machine → AreHonest machine parts lost now → Leaves machine now
none_leaves machine now [] lost is ready honest = record { ready = subst IsReadyMachine (sym honest.0) ready; memory = ap (λ (m : Machine). m.memory) honest.0 }
none_leaves machine now (said ∷ parts) lost is ready honest = absurd (cc is)

-- a row of one part
pub record IsOnePart (machine now : Machine) (said : List Item) : Type 0 where
  pub lost : ℕ
  pub honest : IsHonest machine said lost now

pub one_part : (machine now : Machine) (parts : List (List Item)) (said : List Item) (lost : ℕ) → parts ≡ said ∷ [] → AreHonest machine parts lost now → IsOnePart machine now said
one_part machine now parts said lost is honest = alone (subst (λ list. AreHonest machine list lost now) is honest)
  where
    alone : AreHonest machine (said ∷ []) lost now → IsOnePart machine now said
    alone (between, first, later, here, there, all) = record { lost = first; honest = subst (λ (m : Machine). IsHonest machine said first m) (sym there.0) here }

row_look : (options : ProbeOptions) (changed : ℕ) (sighting : Sighting) (parts : List (List Item)) (machine now : Machine) (lost : ℕ) → IsAddress options.address → options.patience < 2 ^ 32 → LooksAt options changed sighting parts →
    IsReadyMachine machine → AreHonest machine parts lost now → LookLeaves options changed (Some sighting) machine now
row_look options changed sighting parts machine now lost address long l ready honest =
    let one = one_part machine now parts l.said lost l.part honest in look_right options changed sighting parts machine now one.lost address long l ready one.honest

row_trial : (options : ProbeOptions) (old : ℕ) (attempt : TrialFindings) (parts : List (List Item)) (machine now : Machine) (lost : ℕ) → IsAddress options.address → options.patience < 2 ^ 32 → IsTrialOf options old attempt parts →
    IsReadyMachine machine → AreHonest machine parts lost now → Leaves machine now
row_trial options old attempt parts machine now lost address long t ready honest =
    let one = one_part machine now parts t.said lost t.part honest in trial_leaves options old attempt parts machine now one.lost address long t ready one.honest

-- ---- runs that were made, or not

made_trial : (options : ProbeOptions) (wanted : Bool) (old : ℕ) (found : Option TrialFindings) (parts : List (List Item)) (machine now : Machine) (lost : ℕ) → IsAddress options.address → options.patience < 2 ^ 32 →
    MadeWhere wanted (IsTrialOf options old) found parts → IsReadyMachine machine → AreHonest machine parts lost now → Leaves machine now
made_trial options true old None parts machine now lost address long is ready honest = absurd is
made_trial options true old (Some attempt) parts machine now lost address long is ready honest = row_trial options old attempt parts machine now lost address long is ready honest
made_trial options false old None parts machine now lost address long is ready honest = none_leaves machine now parts lost is ready honest
made_trial options false old (Some attempt) parts machine now lost address long is ready honest = absurd is

made_look : (options : ProbeOptions) (wanted : Bool) (changed : ℕ) (found : Option Sighting) (parts : List (List Item)) (machine now : Machine) (lost : ℕ) → IsAddress options.address → options.patience < 2 ^ 32 →
    CountedWhere wanted (LooksAt options) changed found parts → IsReadyMachine machine → AreHonest machine parts lost now → LookLeaves options changed found machine now
made_look options true changed None parts machine now lost address long is ready honest = absurd is.0
made_look options true changed (Some sighting) parts machine now lost address long is ready honest = row_look options changed sighting parts machine now lost address long is.0 ready honest
made_look options false changed None parts machine now lost address long is ready honest =
    let l = none_leaves machine now parts lost is.0 ready honest in record { ready = l.ready; memory = l.memory; number = λ number same. absurd (cc same); unchanged = is.1 refl }
made_look options false changed (Some sighting) parts machine now lost address long is ready honest = absurd is.0

unmade : {A : Type 0} (wanted : Bool) (run : A → List (List Item) → Type 0) (found : Option A) (parts : List (List Item)) → wanted ≡ false → MadeWhere wanted run found parts → (found ≡ None) × (parts ≡ [])
unmade {A} true run found parts off is = absurd (cc off)
unmade {A} false run None parts off is = (refl, is)
unmade {A} false run (Some thing) parts off is = absurd is

-- memory's end, where a search found it
end_right : (search : Search) (memory : List ℕ) (patience lost top : ℕ) → IsTrueEnd search memory patience lost → extent.Top top ≡ extent_of search → top_of memory ≡ top
end_right (search.Ends found) memory patience lost top right is = right ∙ cc is
end_right (search.Stopped (Ok end)) memory patience lost top right is = absurd (cc is)
end_right (search.Stopped (Err cut)) memory patience lost top right is = absurd (cc is)

-- what a search leaves
record SearchLeaves (changed : ℕ) (found : Option Extent) (machine now : Machine) : Type 0 where
  pub memory : now.memory ≡ machine.memory
  pub top : (top : ℕ) → found ≡ Some (extent.Top top) → top_of machine.memory ≡ top
  pub unchanged : changed ≡ 0

made_search : (options : ProbeOptions) (wanted : Bool) (changed : ℕ) (found : Option Extent) (parts : List (List Item)) (machine now : Machine) (lost : ℕ) → CountedWhere wanted (IsSearch options) changed found parts →
    IsReadyMachine machine → AreHonest machine parts lost now → SearchLeaves changed found machine now
made_search options true changed None parts machine now lost is ready honest = absurd is.0
made_search options true changed (Some given) parts machine now lost is ready honest =
    let r = is.0.found machine now lost ready honest in
    record { memory = r.0; top = λ top same. end_right is.0.search machine.memory options.patience lost top r.1 (sym (cc same) ∙ is.0.extent_is); unchanged = r.2 }
made_search options false changed None parts machine now lost is ready honest =
    record { memory = (none_leaves machine now parts lost is.0 ready honest).memory; top = λ top same. absurd (cc same); unchanged = is.1 refl }
made_search options false changed (Some given) parts machine now lost is ready honest = absurd is.0

-- ---- no console of the profile is said to store digits

same_is_kept : (end : TrialEnd) → stores (on_same_number end) ≡ false
same_is_kept trial.Tried = refl
same_is_kept trial.NoWord = refl
same_is_kept trial.GaveUp = refl
same_is_kept (trial.CutOff cut) = refl

numbers_kept : (old now : ℕ) (end : TrialEnd) → now ≡ old → stores (on_numbers old now end) ≡ false
numbers_kept old now end is = rw (eq-eqb now old is) (same_is_kept end)

never_stores : (word : ℕ) (first : Sighting) (attempt : Option TrialFindings) (second : Option Sighting) → ((n : ℕ) → first ≡ look.Number n → n ≡ word) → ((n : ℕ) → second ≡ Some (look.Number n) → n ≡ word) →
    stores (on_looks first attempt second) ≡ false
never_stores word (look.Number old) (Some attempt) (Some (look.Number now)) h k = numbers_kept old now attempt.end (k now refl ∙ sym (h old refl))
never_stores word (look.Number old) (Some attempt) (Some look.NoWord) h k = refl
never_stores word (look.Number old) (Some attempt) (Some look.GaveUp) h k = refl
never_stores word (look.Number old) (Some attempt) (Some (look.CutOff cut)) h k = refl
never_stores word (look.Number old) (Some attempt) None h k = refl
never_stores word (look.Number old) None second h k = refl
never_stores word look.NoWord attempt second h k = refl
never_stores word look.GaveUp attempt second h k = refl
never_stores word (look.CutOff cut) attempt second h k = refl

-- ---- all of it

-- what a probe leaves before it decides
record TriesLeave (options : ProbeOptions) (f : Findings) (machine now : Machine) : Type 0 where
  pub leaves : Leaves machine now
  pub first : (number : ℕ) → f.first ≡ look.Number number → number ≡ word_at machine.memory options.address
  pub second : (number : ℕ) → f.second ≡ Some (look.Number number) → number ≡ word_at machine.memory options.address
  pub unchanged : (f.changes.first ≡ 0) × (f.changes.second ≡ 0)

tries_leave : (options : ProbeOptions) (f : Findings) (parts : List (List Item)) (machine now : Machine) (lost : ℕ) → IsAddress options.address → options.patience < 2 ^ 32 → IsTried options f parts →
    IsReadyMachine machine → AreHonest machine parts lost now → TriesLeave options f machine now
tries_leave options f parts machine now lost address long t ready all =
    let s1 = split machine now t.in_look (t.in_trial ++ t.in_second_look) lost (subst (λ list. AreHonest machine list lost now) t.parts_are all) in
    let s2 = split s1.0 now t.in_trial t.in_second_look s1.2 s1.4 in
    let r1 = row_look options f.changes.first f.first t.in_look machine s1.0 s1.1 address long t.look ready s1.3 in
    let r2 = made_trial options (is_number f.first) (number_in f.first) f.trial t.in_trial s1.0 s2.0 s2.1 address long t.trial r1.ready s2.3 in
    let m2 : s2.0.memory ≡ machine.memory = r2.memory ∙ r1.memory in
    let r3 = made_look options (goes_on f.trial) f.changes.second f.second t.in_second_look s2.0 now s2.2 address long t.second_look r2.ready s2.4 in
    record {
      leaves = record { ready = r3.ready; memory = r3.memory ∙ m2 };
      first = λ number is. r1.number number (ap Some is);
      second = λ number is. r3.number number is ∙ ap (λ memory. word_at memory options.address) m2;
      unchanged = (r1.unchanged, r3.unchanged);
    }

-- what a console leaves that was tried out
pub record TriedLeaves (options : ProbeOptions) (f : Findings) (machine now : Machine) : Type 0 where
  pub ready : IsReadyMachine now
  pub memory : now.memory ≡ machine.memory
  pub first : (number : ℕ) → f.first ≡ look.Number number → number ≡ word_at machine.memory options.address
  pub off : stores (verdict_of f) ≡ false

pub tried_leaves : (options : ProbeOptions) (f : Findings) (parts : List (List Item)) (machine now : Machine) (lost : ℕ) → IsAddress options.address → options.patience < 2 ^ 32 → IsTriedOut options f parts →
    IsReadyMachine machine → AreHonest machine parts lost now → TriedLeaves options f machine now
tried_leaves options f parts machine now lost address long p ready all =
    let s = split machine now p.in_tries p.in_deposit lost (subst (λ list. AreHonest machine list lost now) p.parts_are all) in
    let t = tries_leave options f p.in_tries machine s.0 s.1 address long p.tried ready s.3 in
    let off : stores (verdict_of f) ≡ false = never_stores (word_at machine.memory options.address) f.first f.trial f.second t.first t.second in
    let none = unmade (stores (verdict_of f)) _ f.put_back p.in_deposit off p.deposit in
    let l = none_leaves s.0 now p.in_deposit s.2 none.1 t.leaves.ready s.4 in
    record { ready = l.ready; memory = l.memory ∙ t.leaves.memory; first = t.first; off = off }

pub believes : (options : ProbeOptions) (f : Findings) (parts : List (List Item)) → IsAddress options.address → options.patience < 2 ^ 32 → IsProbe options f parts → AreBelievable f parts
believes options f parts address long p machine now lost ready all =
    let s1 = split machine now p.in_tries (p.in_deposit ++ p.in_search) lost (subst (λ list. AreHonest machine list lost now) p.parts_are all) in
    let s2 = split s1.0 now p.in_deposit p.in_search s1.2 s1.4 in
    let t = tries_leave options f p.in_tries machine s1.0 s1.1 address long p.tried ready s1.3 in
    let off : stores (verdict_of f) ≡ false = never_stores (word_at machine.memory options.address) f.first f.trial f.second t.first t.second in
    let none = unmade (stores (verdict_of f)) _ f.put_back p.in_deposit off p.deposit in
    let l = none_leaves s1.0 s2.0 p.in_deposit s2.1 none.1 t.leaves.ready s2.3 in
    let same : s2.0.memory ≡ machine.memory = l.memory ∙ t.leaves.memory in
    let r = made_search options (forgets (verdict_of f)) f.changes.search f.search p.in_search s2.0 now s2.2 p.search l.ready s2.4 in
    let here : (number : ℕ) → number ≡ word_at machine.memory options.address → number ≡ word_at machine.memory f.address = λ number is. is ∙ ap (word_at machine.memory) (sym p.address) in
    record {
      memory = r.memory ∙ same;
      first = λ number is. here number (t.first number is);
      second = λ number is. here number (t.second number is);
      nothing_put_back = none.0;
      top = λ top is. ap top_of (sym same) ∙ r.top top is;
      unchanged = rw (t.unchanged.0, t.unchanged.1, r.unchanged) refl;
    }
