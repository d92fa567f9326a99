use Rattle.std.proofs.Common.{◌≡◌, ◌∷◌, ◌∙◌, List, Option, inl, inr, map, refl, subst, sym}
use Rattle.endings.specs.declared.failure.Failure.{Failure}
use Rattle.endings.specs.declared.failure.Failure.TheVariants.{NoMemory}
use Rattle.request_values.specs.declared.request.Rehearsal.{Rehearsal}
use Rattle.input_files.specs.Inputs.{Inputs, Known, AreOpened, IsUnopened, OfFiles, inputs_of}
use Rattle.input_files.specs.Opening.{Name, InputStep}
use Rattle.input_files.specs.Source.{source_remaining}
use Rattle.input_files.specs.Taking.{FailsToTake, OfScripted, behind_first, rehearsed_names, rehearsed_tapes}
use Rattle.input_files.proofs.Errors.{error_is}
use Rattle.input_files.proofs.OpenedTapes.{of_files, opened_in_vain}
use Rattle.input_files.proofs.taking.take_files_with_script.Goals as goal

of_names : (rehearsal : Rehearsal) (more : List Name) (P : List Name → Type 0) → more ≡ rehearsal.more.items → P (rehearsal.tape ∷ rehearsal.script ∷ more) → P (rehearsed_names rehearsal)
of_names rehearsal more P is h = subst (λ (l : List Name). P (rehearsal.tape ∷ rehearsal.script ∷ l)) is h

of_tapes : (rehearsal : Rehearsal) (more : List Name) (P : List Name → Type 0) → more ≡ rehearsal.more.items → P (rehearsal.tape ∷ more) → P (rehearsed_tapes rehearsal)
of_tapes rehearsal more P is h = subst (λ (l : List Name). P (rehearsal.tape ∷ l)) is h

renamed : {X : Type 0} (known : X → Known) (names names' : List Name) (old new : List X) (failure : Failure) → names ≡ names'
    → FailsToTake (inputs_of names known old new) failure → FailsToTake (inputs_of names' known old new) failure
renamed known names names' old new failure is h = subst (λ (l : List Name). FailsToTake (inputs_of l known old new) failure) is h

pub returns-in_err-tapes-clause-err : goal.returns-in_err-tapes-clause-err
returns-in_err-tapes-clause-err g c =
    error_is c.from_residual.result c.in_err-tapes.field-0.0 _ c.from_residual.ensures.1
    (inl (of_names c.args.rehearsal.now c.as_slice-more.result.now
    (λ names. IsUnopened names (g.F.InputFiles.opened c.args.files.now) (g.F.InputFiles.opened c.open_with_script.new.rt) c.in_err-tapes.field-0.0)
    c.as_slice-more.ensures.value c.in_err-tapes.ensures.err))

pub returns-in_default-clause-err : goal.returns-in_default-clause-err
returns-in_default-clause-err g c =
    inl (of_names c.args.rehearsal.now c.as_slice-more.result.now
    (λ names. IsUnopened names (g.F.InputFiles.opened c.args.files.now) (g.F.InputFiles.opened c.open_with_script.new.rt) NoMemory)
    c.as_slice-more.ensures.value (opened_in_vain _ _ _ _ c.in_ok-tapes.ensures.ok))

-- the script and the tapes of files that were opened
scripted : {X : Type 0} (known : X → Known) (rehearsal : Rehearsal) (more : List Name) (opened opened' : Option (List InputStep)) (script : X) (tapes old now : List X)
    (P : Known → Inputs → Type 0) → more ≡ rehearsal.more.items → old ≡ tapes
    → AreOpened (rehearsal.tape ∷ rehearsal.script ∷ more) (behind_first (known script) (map known tapes)) opened opened'
    → P (known script) (inputs_of (rehearsal.tape ∷ more) known old now) → OfScripted rehearsal opened opened' P
scripted known rehearsal more opened opened' script tapes old now P more_is same are is = record {
  script = known script;
  held = map known old;
  are_open = of_names rehearsal more (λ names. AreOpened names (behind_first (known script) (map known old)) opened opened') more_is
      (subst (λ (l : List _). AreOpened (rehearsal.tape ∷ rehearsal.script ∷ more) (behind_first (known script) (map known l)) opened opened') (sym same) are);
  is_so = of_tapes rehearsal more (λ names. OfFiles names (map known old) (P (known script))) more_is (of_files known (rehearsal.tape ∷ more) old now (P (known script)) is);
}

pub returns-in_err-taken-clause-err : goal.returns-in_err-taken-clause-err
returns-in_err-taken-clause-err g c =
    error_is c.from_residual-in_err-taken.result c.in_err-taken.field-0.0 _ c.from_residual-in_err-taken.ensures.1
    (inr (scripted (source_remaining g.F.File.Read.remaining) c.args.rehearsal.now c.as_slice-more.result.now _ _ c.in_ok-tapes.script_file _ c.deref_mut.result.now c.take_named.new.inputs
    (λ script inputs. FailsToTake inputs c.in_err-taken.field-0.0) c.as_slice-more.ensures.value c.deref_mut.ensures.value c.in_ok-tapes.ensures.ok
    (renamed _ _ _ _ _ _ (c.deref.ensures.value ∙ c.in-Ok.ensures) c.in_err-taken.ensures.err)))

pub returns-clause-ok : goal.returns-clause-ok
returns-clause-ok g c =
    scripted (source_remaining g.F.File.Read.remaining) c.args.rehearsal.now c.as_slice-more.result.now _ _ c.in_ok-tapes.script_file _ c.deref_mut.result.now c.take_named.new.inputs
    _ c.as_slice-more.ensures.value c.deref_mut.ensures.value c.in_ok-tapes.ensures.ok (c.in_ok-taken.ensures.ok, refl)
