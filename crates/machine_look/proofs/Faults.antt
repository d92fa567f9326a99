-- Looks that come to nothing.
use Rattle.std.proofs.Common.{◌≡◌, ◌<◌, ℕ, true, List, [], ◌∷◌, ◌++◌, length, Some, Result, Ok, Err, IfOk, IsErrAnd, refl, arith, sym, subst, inl, inr}
use Rattle.std.specs.Io.KnownBytes.{Keeps}
use Rattle.looking_engine.specs.Stopping.{LookStop}
use Rattle.machine_look.specs.declared.look_fault.LookFault.{LookFault}
use Rattle.machine_look.specs.declared.look_fault.LookFault.TheVariants.{IsThere, WriteTape, Connect}
use Rattle.machine_look.specs.declared.saving.SaveOptions.{SaveOptions}
use Rattle.tape_shelf.specs.declared.shelf.ShelfFault.{ShelfFault}
use Rattle.tape_shelf.specs.declared.shelf.ShelfFault.TheVariants as why
use Rattle.machine_look.specs.LookFault.{IsKeepFault, IsReadFault, IsSaveFault, fault_of_shelf}
use Rattle.machine_look.specs.Behind.{Saving}
use Rattle.machine_look.specs.Save.{IsSaveRead, SaveTold, TakesUp, console_of, has_all, numbers_of, trusts}
use Rattle.tape_shelf.specs.SavedSteps.{adds, closes, full, puts}
use Rattle.tape_shelf.specs.SavedTape.{last_text}
use Rattle.tape_shelf.specs.Shelf.{ShelfStep, Put, NotPut, put_step, IsPutFault}
use Rattle.tape_shelf.specs.ShelfAt.{ShelfAt}
use Rattle.tape_shelf.specs.ShelfTold.{AreDone, HasDone, IsDone, ShelfTold}
use Rattle.tape_shelf.proofs.Added.{done_join, done_one}

-- ---- how a save fails

-- what was done once a shelf was taken up
pub done_behind : (taking steps : List ShelfStep) (folder : List ℕ) (a b c : ShelfTold) → AreDone folder taking a b → AreDone folder steps b c → HasDone (taking ++ steps) a c
done_behind taking steps folder a b c first second = (folder, done_join folder taking steps a b c first second)

-- a reading that comes to nothing
pub not_read : (saving : Saving) (taking : List ShelfStep) (before after : SaveTold) (mid : ShelfAt) (opened : List ℕ → Type 0) (folder : List ℕ) (fault : LookFault)
    → TakesUp saving.options.range before.shelf.left saving.found taking → mid.is_opened_as folder → AreDone folder taking before.shelf mid.told
    → IsReadFault saving (record { shelf = mid; console = console_of before }) (record { shelf = record { told = after.shelf; is_opened_as = opened }; console = console_of after }) fault
    → Keeps before.out after.out → IsSaveFault saving.options before after fault
not_read saving taking before after mid opened folder Connect takes is_open taken fails same = (
  record {
    found = saving.found;
    taking = taking;
    taken_up = takes;
    untouched = (folder, subst (λ s. AreDone folder taking before.shelf s) (sym fails.0) taken);
    no_line = fails.2;
    nothing_reported = same;
  },
  fails.1,
)
not_read saving taking before after mid opened folder WriteTape takes is_open taken fails same = inr (inl (record {
  read = record { found = saving.found; taking = taking; taken_up = takes; looks = fails.0; last = fails.1; read = fails.2 };
  number = fails.3;
  within = fails.4;
  refused = done_behind taking _ folder before.shelf mid.told after.shelf taken (fails.5 folder is_open);
  nothing_reported = same;
}))
not_read saving taking before after mid opened folder other takes is_open taken fails same = absurd fails

-- a tape that is not closed
pub not_closed : (options : SaveOptions) (before after : SaveTold) (mid : ShelfTold) (mid' : ShelfAt) (opened : List ℕ → Type 0) (folder : List ℕ) (stop : LookStop) (read : IsSaveRead (Some stop) options before after) → has_all stop (trusts read) ≡ true → (fault : LookFault)
    → mid'.is_opened_as folder → AreDone folder read.taking before.shelf mid → AreDone folder (adds options.range.from (numbers_of read) (full (numbers_of read))) mid mid'.told
    → IsKeepFault (last_text options.range.from (numbers_of read) options.start) mid' (record { told = after.shelf; is_opened_as = opened }) fault → Keeps before.out after.out → IsSaveFault options before after fault
not_closed options before after mid mid' opened folder stop read all IsThere is_open taken added fails same =
    inr (record { stop = stop; read = read; all = all; refused = done_behind read.taking _ folder before.shelf mid after.shelf taken (done_join folder (adds options.range.from (numbers_of read) (full (numbers_of read))) _ mid mid'.told after.shelf added (fails folder is_open)); nothing_reported = same })
not_closed options before after mid mid' opened folder stop read all WriteTape is_open taken added fails same =
    inr (inr (record { stop = stop; read = read; all = all; refused = done_behind read.taking _ folder before.shelf mid after.shelf taken (done_join folder (adds options.range.from (numbers_of read) (full (numbers_of read))) _ mid mid'.told after.shelf added (fails folder is_open)); nothing_reported = same }))
not_closed options before after mid mid' opened folder stop read all other is_open taken added fails same = absurd fails

-- ---- the last text

pub closes_long : (from : ℕ) (numbers : List ℕ) (start : ℕ) → 0 < length numbers → closes from numbers start ≡ Put (last_text from numbers start) ∷ []
closes_long from [] start some = absurd (omega arith)
closes_long from (n ∷ numbers) start some = refl

pub not_put : (last text : List ℕ) (fault : ShelfFault) (a b : ShelfAt) → text ≡ last → IsPutFault fault
    → ((folder : List ℕ) → a.is_opened_as folder → IsDone folder (put_step text (Err fault)) a.told b.told) → IsKeepFault last a b (fault_of_shelf fault)
not_put last text why.IsThere a b is can done =
    λ folder is_open. subst (λ t. AreDone folder (NotPut t why.IsThere ∷ []) a.told b.told) is (done_one folder (NotPut text why.IsThere) a.told b.told (done folder is_open))
not_put last text why.Write a b is can done =
    λ folder is_open. subst (λ t. AreDone folder (NotPut t why.Write ∷ []) a.told b.told) is (done_one folder (NotPut text why.Write) a.told b.told (done folder is_open))
not_put last text why.PartIsThere a b is can done = absurd can
not_put last text why.NotOfSave a b is can done = absurd can
not_put last text why.Memory a b is can done = absurd can

-- the steps of a save whose tape has its place
pub saved_steps : (taking : List ShelfStep) (folder : List ℕ) (from start : ℕ) (numbers : List ℕ) (a b c d : ShelfTold) → AreDone folder taking a b
    → AreDone folder (adds from numbers (full numbers)) b c → AreDone folder (closes from numbers start) c d → HasDone (taking ++ puts from numbers start) a d
saved_steps taking folder from start numbers a b c d taken added closed =
    done_behind taking (puts from numbers start) folder a b d taken (done_join folder (adds from numbers (full numbers)) (closes from numbers start) b c d added closed)

-- ---- results

-- a result with an error says nothing of a value
pub no_value : {T E : Type 0} (r : Result T E) (error : E) (P : T → Type 0) → IsErrAnd r (λ e. e ≡ error) → IfOk r P
no_value (Ok x) error P is = absurd is
no_value (Err e) error P is = tt
