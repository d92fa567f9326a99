use Rattle.std.proofs.Common.{◌≡◌, ◌∷◌, [], ◌∙◌, List, if◌then◌else◌, true, false, inl, inr, ap, refl, sym, subst, ⊎_elim}
use Rattle.std.proofs.lemmas.Result.{IfErr-weaker, IfOk-weaker}
use Rattle.input_files.specs.Opening.{Name}
use Rattle.input_files.specs.Inputs.{AreOpened, IsUnopened, means_input}
use Rattle.input_files.specs.Source.{source_remaining}
use Rattle.input_files.specs.Taking.{behind_first, rehearsed_files, rehearsed_names, rehearsed_tapes}
use Rattle.request_values.specs.declared.request.Rehearsal.{Rehearsal}
use Rattle.input_files.proofs.taking.take_with_script.Goals as goal

-- with the tape on standard input the script alone is a file
script_alone : (rehearsal : Rehearsal) (P : List Name → Type 0) → means_input (rehearsed_tapes rehearsal) ≡ true → P (rehearsal.script ∷ []) → P (rehearsed_files rehearsal)
script_alone rehearsal P is h = subst (λ b. P (if b then (rehearsal.script ∷ []) else rehearsed_names rehearsal)) (sym is) h

all_files : (rehearsal : Rehearsal) (P : List Name → Type 0) → means_input (rehearsed_tapes rehearsal) ≡ false → P (rehearsed_names rehearsal) → P (rehearsed_files rehearsal)
all_files rehearsal P is h = subst (λ b. P (if b then (rehearsal.script ∷ []) else rehearsed_names rehearsal)) (sym is) h

pub returns-then-is_lone_input-clause-ok : goal.returns-then-is_lone_input-clause-ok
returns-then-is_lone_input-clause-ok g c =
    let same = ap (λ (more : List Name). means_input (c.args.rehearsal.now.tape ∷ more)) (sym c.deref.ensures.value) in
    let is = same ∙ (sym c.is_lone_input.ensures ∙ c.if-is_lone_input.true) in
    IfOk-weaker c.take_input_with_script.result _ _
    (λ taken h. record {
      script = source_remaining g.F.File.Read.remaining taken.1;
      held = [];
      opened = script_alone c.args.rehearsal.now (λ files. AreOpened files (source_remaining g.F.File.Read.remaining taken.1 ∷ []) (g.F.InputFiles.opened c.args.files.now) (g.F.InputFiles.opened c.take_input_with_script.new.files)) is h.0;
      is_so = inl (is, (h.1, refl));
    })
    c.take_input_with_script.ensures.ok

pub returns-then-is_lone_input-clause-err : goal.returns-then-is_lone_input-clause-err
returns-then-is_lone_input-clause-err g c =
    let same = ap (λ (more : List Name). means_input (c.args.rehearsal.now.tape ∷ more)) (sym c.deref.ensures.value) in
    let is = same ∙ (sym c.is_lone_input.ensures ∙ c.if-is_lone_input.true) in
    let before = g.F.InputFiles.opened c.args.files.now in
    let after = g.F.InputFiles.opened c.take_input_with_script.new.files in
    IfErr-weaker c.take_input_with_script.result _ _
    (λ failure h. ⊎_elim
    (λ u. inl (record {
      unopened = script_alone c.args.rehearsal.now (λ files. IsUnopened files before after failure) is u.unopened;
      nothing_read = u.nothing_read;
      nothing_written = u.nothing_written;
    }))
    (λ o. inr (record { script = o.0; held = []; opened = script_alone c.args.rehearsal.now (λ files. AreOpened files (o.0 ∷ []) before after) is o.1; is_so = inl (is, o.2) }))
    h)
    c.take_input_with_script.ensures.err

pub returns-else-is_lone_input-clause-ok : goal.returns-else-is_lone_input-clause-ok
returns-else-is_lone_input-clause-ok g c =
    let same = ap (λ (more : List Name). means_input (c.args.rehearsal.now.tape ∷ more)) (sym c.deref.ensures.value) in
    let is = same ∙ (sym c.is_lone_input.ensures ∙ c.if-is_lone_input.false) in
    IfOk-weaker c.take_files_with_script.result _ _
    (λ taken h. record {
      script = h.script;
      held = h.held;
      opened = all_files c.args.rehearsal.now (λ files. AreOpened files (behind_first h.script h.held) (g.F.InputFiles.opened c.args.files.now) (g.F.InputFiles.opened c.take_files_with_script.new.files)) is h.are_open;
      is_so = inr (is, h.is_so, refl);
    })
    c.take_files_with_script.ensures.ok

pub returns-else-is_lone_input-clause-err : goal.returns-else-is_lone_input-clause-err
returns-else-is_lone_input-clause-err g c =
    let same = ap (λ (more : List Name). means_input (c.args.rehearsal.now.tape ∷ more)) (sym c.deref.ensures.value) in
    let is = same ∙ (sym c.is_lone_input.ensures ∙ c.if-is_lone_input.false) in
    let before = g.F.InputFiles.opened c.args.files.now in
    let after = g.F.InputFiles.opened c.take_files_with_script.new.files in
    IfErr-weaker c.take_files_with_script.result _ _
    (λ failure h. ⊎_elim
    (λ u. inl (record { unopened = all_files c.args.rehearsal.now (λ files. IsUnopened files before after failure) is u; nothing_read = refl; nothing_written = refl }))
    (λ o. inr (record {
      script = o.script;
      held = o.held;
      opened = all_files c.args.rehearsal.now (λ files. AreOpened files (behind_first o.script o.held) before after) is o.are_open;
      is_so = inr (is, o.is_so, refl);
    }))
    h)
    c.take_files_with_script.ensures.err
