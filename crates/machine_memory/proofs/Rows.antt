-- Steps of a test, one after another.
use Rattle.std.proofs.Common.{◌≡◌, ℕ, suc, ◌+◌, List, [], ◌∷◌, ◌++◌, Option, refl, ap, sym, subst, ◌∙◌, append_assoc, arith}
use Rattle.host_devices.specs.declared.item.Item.{Item}
use Rattle.host_devices.specs.Told.{Gains}
use Rattle.host_devices.proofs.Told.{gains_join, gains_none}
use Rattle.looking_law.specs.Rows.{in_a_row}
use Rattle.machine_probe.specs.Runs.{OnLine}
use Rattle.machine_memory.specs.declared.memory_options.MemoryOptions.{MemoryOptions}
use Rattle.machine_memory.specs.Course.{Standing}
use Rattle.machine_memory.specs.Runs.{AreSteps, IsCut, IsCutStep, IsRow, IsStep, most_steps}

row_append : (xs ys : List (List Item)) → in_a_row (xs ++ ys) ≡ in_a_row xs ++ in_a_row ys
row_append [] ys = refl
row_append (said ∷ xs) ys = ap (λ rest. said ++ rest) (row_append xs ys) ∙ sym (append_assoc said (in_a_row xs) (in_a_row ys))

rows_join : (a b c : Option (List Item)) (xs ys : List (List Item)) → Gains a b (in_a_row xs) → Gains b c (in_a_row ys) → Gains a c (in_a_row (xs ++ ys))
rows_join a b c xs ys g h = subst (Gains a c) (sym (row_append xs ys)) (gains_join a b c (in_a_row xs) (in_a_row ys) g h)

-- nothing was done yet
pub no_step : (options : MemoryOptions) (first : Standing) (line : Option (List Item)) → OnLine (AreSteps 0 options first first) line line
no_step options first line = record { parts = []; are = (refl, refl); on_line = gains_none line }

next : (n : ℕ) → suc n ≡ n + 1
next n = omega arith

-- a step more
pub step_more : (n : ℕ) (options : MemoryOptions) (first between last : Standing) (l0 l1 l2 : Option (List Item)) → OnLine (AreSteps n options first between) l0 l1 → OnLine (IsStep options between last) l1 l2 →
    OnLine (AreSteps (n + 1) options first last) l0 l2
step_more n options first between last l0 l1 l2 row step = subst (λ (k : ℕ). OnLine (AreSteps k options first last) l0 l2) (next n) (record {
  parts = row.parts ++ step.parts;
  are = (between, row.parts, step.parts, row.are, step.are, refl);
  on_line = rows_join l0 l1 l2 row.parts step.parts row.on_line step.on_line;
})

-- all steps
pub all_steps : (n : ℕ) (options : MemoryOptions) (first last : Standing) (l0 l1 : Option (List Item)) → n ≡ most_steps → OnLine (AreSteps n options first last) l0 l1 → OnLine (IsRow options first last) l0 l1
all_steps n options first last l0 l1 all row = subst (λ (k : ℕ). OnLine (AreSteps k options first last) l0 l1) all row

-- a step that was cut off
pub cut_more : (n : ℕ) (options : MemoryOptions) (first between : Standing) (l0 l1 l2 : Option (List Item)) → OnLine (AreSteps n options first between) l0 l1 → OnLine (IsCutStep options between.place) l1 l2 → OnLine (IsCut options first) l0 l2
cut_more n options first between l0 l1 l2 row step = record {
  parts = row.parts ++ step.parts;
  are = record { count = n; between = between; front = row.parts; more = step.parts; steps = row.are; cut = step.are; parts_are = refl };
  on_line = rows_join l0 l1 l2 row.parts step.parts row.on_line step.on_line;
}
