-- How the runs of a probe come to stand one behind another.
use Rattle.std.proofs.Common.{◌≡◌, ℕ, ◌+◌, ◌-◌, ◌*◌, ◌/◌, true, false, Bool, List, [], ◌∷◌, ◌++◌, Option, Some, None, inr, refl, arith, ap, sym, subst, ◌∙◌, append_assoc, append-nil}
use Rattle.host_devices.specs.declared.item.Item.{Item}
use Rattle.host_devices.specs.Told.{Gains, SaysNothing}
use Rattle.host_devices.proofs.Told.{gains_join, gains_kept, gains_none}
use Rattle.looking_law.specs.Rows.{in_a_row}
use Rattle.probe_report.specs.declared.findings.TrialFindings.{TrialFindings}
use Rattle.probe_report.specs.declared.findings.Extent.{Extent}
use Rattle.probe_report.specs.declared.findings.Findings.{Findings}
use Rattle.probe_report.specs.declared.findings.Sighting.{Sighting}
use Rattle.probe_report.specs.declared.findings.Sighting.TheVariants.{Number, NoWord, GaveUp, CutOff}
use Rattle.probe_report.specs.declared.judging.Verdict.{Verdict}
use Rattle.probe_report.specs.declared.judging.Verdict.TheVariants.{Forgets, Stores, Unknown}
use Rattle.probe_report.specs.Judging.{on_looks, verdict_of}
use Rattle.reading_core.specs.Addresses.{addresses_between, addresses_from}
use Rattle.reading_core.specs.Reader.{Reader, ended}
use Rattle.looking_engine.specs.Stopping.{LookStop, TellsEnd, TrialStop}
use Rattle.looking_engine.specs.Inquired.{Inquired, inquiry}
use Rattle.looking_engine.specs.Conducted.{Conducted, trying}
use Rattle.trial_core.specs.declared.trial.Trial.{Trial}
use Rattle.trial_core.specs.Trial.{begun_trial, ended as trial_ended}
use Rattle.looking_law.specs.Again.{looker}
use Rattle.machine_probe.specs.declared.probe_options.ProbeOptions.{ProbeOptions}
use Rattle.machine_probe.specs.declared.putting_back.Deposit.{Deposit}
use Rattle.machine_probe.specs.Came.{trial_findings_of, first_of, sighting_of}
use Rattle.machine_probe.specs.Follow.{IsBrokenOff, IsProbe, IsTried, IsTriedOut, CountedWhere, MadeWhere, forgets, goes_on, is_number, number_in, stores}
use Rattle.machine_probe.specs.PuttingBack.{PutsBack}
use Rattle.machine_probe.specs.Rooms.{HasDeposit}
use Rattle.machine_probe.specs.Runs.{LooksAt, IsSearch, IsTrialOf, OnLine}
use Rattle.machine_probe.specs.Turns.{turns_of}

-- ---- the hosts of the looks

single : (a : ℕ) → addresses_from a 1 ≡ a ∷ []
unfolding addresses_from
single a = ap (λ (n : ℕ). n ∷ []) (none_more a)
  where
    none_more : (n : ℕ) → n + 2 * 0 ≡ n
    none_more n = omega arith

-- the words from an address to itself are the one word
pub one_between : (a : ℕ) → addresses_between a a ≡ a ∷ []
one_between a = ap (addresses_from a) (count a) ∙ single a
  where
    count : (n : ℕ) → (n - n) / 2 + 1 ≡ 1
    count n = omega arith

-- ---- one run

-- a run of one part
pub one : (run : List (List Item) → Type 0) (line line' : Option (List Item)) (said : List Item) → run (said ∷ []) → Gains line line' said → OnLine run line line'
one run line line' said is gains = record { parts = said ∷ []; are = is; on_line = subst (Gains line line') (sym (append-nil said)) gains }

-- what the engine of the looks answers is a look
pub look_is : (options : ProbeOptions) (core last : Reader) (stop : LookStop) (turns : ℕ) (number : Option ℕ) (sighting : Sighting) (changed : ℕ) (line line' : Option (List Item)) →
    core ≡ looker options.address options.patience → turns ≡ turns_of options.patience → Inquired turns (inquiry core last (Some stop)) line line' → TellsEnd stop (ended last.phase) →
    number ≡ first_of last.values → sighting ≡ sighting_of stop number → changed ≡ last.foreign → OnLine (LooksAt options changed sighting) line line'
look_is options core last stop turns number sighting changed line line' begins limit s end is came counted =
    one (LooksAt options changed sighting) line line' s.said (record {
      said = s.said;
      part = refl;
      stop = stop;
      last = last;
      inquired = subst (λ (n : ℕ). Inquired n (inquiry (looker options.address options.patience) last (Some stop)) (Some []) (Some s.said)) limit (subst (λ (r : Reader). Inquired turns (inquiry r last (Some stop)) (Some []) (Some s.said)) begins (record {
        heard = s.heard;
        said = s.said;
        host = s.host;
        goes_on = s.goes_on;
        within = s.within;
        items = s.items;
        unkept = s.unkept;
        on_line = refl;
      }));
      end = end;
      sighting_is = came ∙ ap (sighting_of stop) is;
      changed_is = counted;
    }) s.on_line

-- what the engine of the trial answers is a trial
pub trial_is : (options : ProbeOptions) (old : ℕ) (first last : Trial) (stop : TrialStop) (turns : ℕ) (attempt : TrialFindings) (line line' : Option (List Item)) →
    first ≡ begun_trial options.address old options.patience → turns ≡ turns_of options.patience → Conducted turns (trying first last (Some stop)) line line' → TellsEnd stop (trial_ended last.phase) →
    attempt ≡ trial_findings_of last stop → OnLine (IsTrialOf options old attempt) line line'
trial_is options old first last stop turns attempt line line' begins limit s end came =
    one (IsTrialOf options old attempt) line line' s.said (record {
      said = s.said;
      part = refl;
      stop = stop;
      last = last;
      conducted = subst (λ (n : ℕ). Conducted n (trying (begun_trial options.address old options.patience) last (Some stop)) (Some []) (Some s.said)) limit (subst (λ (t : Trial). Conducted turns (trying t last (Some stop)) (Some []) (Some s.said)) begins (record {
        heard = s.heard;
        said = s.said;
        host = s.host;
        goes_on = s.goes_on;
        within = s.within;
        items = s.items;
        unkept = s.unkept;
        on_line = refl;
      }));
      end = end;
      findings_are = came;
    }) s.on_line

-- ---- runs that are made, or not

pub made : {A : Type 0} (wanted : Bool) (run : A → List (List Item) → Type 0) (found : A) (line line' : Option (List Item)) → wanted ≡ true → OnLine (run found) line line' → OnLine (MadeWhere wanted run (Some found)) line line'
made {A} true run found line line' is s = record { parts = s.parts; are = s.are; on_line = s.on_line }
made {A} false run found line line' is s = absurd (cc is)

pub not_made : {A : Type 0} (wanted : Bool) (run : A → List (List Item) → Type 0) (line : Option (List Item)) → wanted ≡ false → OnLine (MadeWhere wanted run None) line line
not_made {A} true run line is = absurd (cc is)
not_made {A} false run line is = record { parts = []; are = refl; on_line = gains_none line }

-- runs in which characters are counted
pub counted_made : {A : Type 0} (wanted : Bool) (run : ℕ → A → List (List Item) → Type 0) (changed : ℕ) (found : A) (line line' : Option (List Item)) → wanted ≡ true → OnLine (run changed found) line line' →
    OnLine (CountedWhere wanted run changed (Some found)) line line'
counted_made {A} wanted run changed found line line' is s =
    let m = made wanted (run changed) found line line' is s in record { parts = m.parts; are = (m.are, λ none. absurd (cc none)); on_line = m.on_line }

pub none_counted : {A : Type 0} (wanted : Bool) (run : ℕ → A → List (List Item) → Type 0) (line : Option (List Item)) → wanted ≡ false → OnLine (CountedWhere wanted run 0 None) line line
none_counted {A} wanted run line is = let m = not_made wanted (run 0) line is in record { parts = m.parts; are = (m.are, λ none. refl); on_line = m.on_line }

-- where the console stored the digits, the old number can be put back
pub can_put_back : (options : ProbeOptions) (first : Sighting) (trial : Option TrialFindings) (second : Option Sighting) → stores (on_looks first trial second) ≡ true → HasDeposit options first None → ⊥
can_put_back options (Number old) trial second is has = has
can_put_back options NoWord trial second is has = cc is
can_put_back options GaveUp trial second is has = cc is
can_put_back options (CutOff cut) trial second is has = cc is

-- and it is the number that was read
pub deposit_of : (options : ProbeOptions) (first : Sighting) (trial : Option TrialFindings) (second : Option Sighting) (deposit : Deposit) (P : ℕ → Type 0) → stores (on_looks first trial second) ≡ true →
    ((old : ℕ) → HasDeposit options (Number old) (Some deposit) → P old) → HasDeposit options first (Some deposit) → P (number_in first)
deposit_of options (Number old) trial second deposit P is so has = so old has
deposit_of options NoWord trial second deposit P is so has = absurd (cc is)
deposit_of options GaveUp trial second deposit P is so has = absurd (cc is)
deposit_of options (CutOff cut) trial second deposit P is so has = absurd (cc is)

pub not_stores : (verdict : Verdict) → (verdict ≡ Stores → ⊥) → stores verdict ≡ false
not_stores Forgets other = refl
not_stores Stores other = absurd (other refl)
not_stores Unknown other = refl

-- ---- all of them

row_append : (xs ys : List (List Item)) → in_a_row (xs ++ ys) ≡ in_a_row xs ++ in_a_row ys
row_append [] ys = refl
row_append (said ∷ xs) ys = ap (λ rest. said ++ rest) (row_append xs ys) ∙ sym (append_assoc said (in_a_row xs) (in_a_row ys))

rows_join : (a b c : Option (List Item)) (xs ys : List (List Item)) → Gains a b (in_a_row xs) → Gains b c (in_a_row ys) → Gains a c (in_a_row (xs ++ ys))
rows_join a b c xs ys g h = subst (Gains a c) (sym (row_append xs ys)) (gains_join a b c (in_a_row xs) (in_a_row ys) g h)

-- what a probe does before it decides
pub three_runs : (options : ProbeOptions) (f : Findings) (l0 l1 l2 l3 : Option (List Item)) → OnLine (LooksAt options f.changes.first f.first) l0 l1 →
    OnLine (MadeWhere (is_number f.first) (IsTrialOf options (number_in f.first)) f.trial) l1 l2 → OnLine (CountedWhere (goes_on f.trial) (LooksAt options) f.changes.second f.second) l2 l3 →
    OnLine (IsTried options f) l0 l3
three_runs options f l0 l1 l2 l3 a b c = record {
  parts = a.parts ++ (b.parts ++ c.parts);
  are = record { in_look = a.parts; in_trial = b.parts; in_second_look = c.parts; parts_are = refl; look = a.are; trial = b.are; second_look = c.are };
  on_line = rows_join l0 l1 l3 a.parts (b.parts ++ c.parts) a.on_line (rows_join l1 l2 l3 b.parts c.parts b.on_line c.on_line);
}

pub tried_out : (options : ProbeOptions) (f : Findings) (l0 l3 l4 : Option (List Item)) → f.address ≡ options.address → OnLine (IsTried options f) l0 l3 →
    OnLine (MadeWhere (stores (verdict_of f)) (PutsBack options (number_in f.first)) f.put_back) l3 l4 → OnLine (IsTriedOut options f) l0 l4
tried_out options f l0 l3 l4 address a d = record {
  parts = a.parts ++ d.parts;
  are = record { address = address; in_tries = a.parts; in_deposit = d.parts; parts_are = refl; tried = a.are; deposit = d.are };
  on_line = rows_join l0 l3 l4 a.parts d.parts a.on_line d.on_line;
}

-- with what was searched
abbrev searched : Findings → Option Extent → ℕ → Findings
searched f search changed = record f { search = search; changes = record f.changes { search = changed } }

-- what was searched says nothing of the tries
searched_too : (options : ProbeOptions) (f : Findings) (search : Option Extent) (changed : ℕ) (parts : List (List Item)) → IsTried options f parts → IsTried options (searched f search changed) parts
searched_too options f search changed parts t =
    record { in_look = t.in_look; in_trial = t.in_trial; in_second_look = t.in_second_look; parts_are = t.parts_are; look = t.look; trial = t.trial; second_look = t.second_look }

pub all_runs : (options : ProbeOptions) (f : Findings) (search : Option Extent) (changed : ℕ) (verdict : Verdict) (l0 l4 l5 : Option (List Item)) → OnLine (IsTriedOut options f) l0 l4 → verdict ≡ verdict_of f →
    OnLine (CountedWhere (forgets verdict) (IsSearch options) changed search) l4 l5 → OnLine (IsProbe options (searched f search changed)) l0 l5
all_runs options f search changed verdict l0 l4 l5 a judged e = record {
  parts = a.are.in_tries ++ (a.are.in_deposit ++ e.parts);
  are = record {
    address = a.are.address;
    in_tries = a.are.in_tries;
    in_deposit = a.are.in_deposit;
    in_search = e.parts;
    parts_are = refl;
    tried = searched_too options f search changed a.are.in_tries a.are.tried;
    deposit = a.are.deposit;
    search = subst (λ (v : Verdict). CountedWhere (forgets v) (IsSearch options) changed search e.parts) judged e.are;
  };
  on_line = subst (λ (parts : List (List Item)). Gains l0 l5 (in_a_row parts)) (ap (λ (front : List (List Item)). front ++ e.parts) a.are.parts_are ∙ append_assoc a.are.in_tries a.are.in_deposit e.parts)
      (rows_join l0 l4 l5 a.parts e.parts a.on_line e.on_line);
}

-- a probe that was broken off before its search, for want of memory

-- where it was not made, nothing was said
none_made : {A : Type 0} (wanted : Bool) (run : A → List (List Item) → Type 0) (found : Option A) (parts : List (List Item)) → wanted ≡ false → MadeWhere wanted run found parts → parts ≡ []
none_made {A} true run found parts is o = absurd (cc is)
none_made {A} false run None parts is o = o
none_made {A} false run (Some made) parts is o = absurd o

forgets_not_stores : (verdict : Verdict) → forgets verdict ≡ true → stores verdict ≡ false
forgets_not_stores Forgets is = refl
forgets_not_stores Stores is = absurd (cc is)
forgets_not_stores Unknown is = absurd (cc is)

pub unsearched : (options : ProbeOptions) (f : Findings) (verdict : Verdict) (l0 l4 l5 : Option (List Item)) → OnLine (IsTriedOut options f) l0 l4 →
    verdict ≡ verdict_of f → forgets verdict ≡ true → SaysNothing l4 l5 → OnLine (IsBrokenOff options) l0 l5
unsearched options f verdict l0 l4 l5 a judged is kept =
    let same = ap forgets (sym judged) ∙ is in
    let none : a.are.in_deposit ≡ [] = none_made _ _ f.put_back a.are.in_deposit (forgets_not_stores (verdict_of f) same) a.are.deposit in
    let parts : a.parts ≡ a.are.in_tries = a.are.parts_are ∙ (ap (λ (more : List (List Item)). a.are.in_tries ++ more) none ∙ append-nil a.are.in_tries) in
    record {
      parts = a.are.in_tries;
      are = inr (record { f = f; tried = a.are.tried; same = same });
      on_line = subst (Gains l0 l5) (append-nil (in_a_row a.are.in_tries))
          (gains_join l0 l4 l5 (in_a_row a.are.in_tries) [] (subst (λ (parts : List (List Item)). Gains l0 l4 (in_a_row parts)) parts a.on_line) (gains_kept l4 l5 kept));
    }
