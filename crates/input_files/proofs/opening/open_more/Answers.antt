use Rattle.std.proofs.Common.{◌∷◌, ◌++◌, ◌∙◌, [], refl, sym, rules, arith}
use Rattle.input_files.specs.Source.{source_remaining}
use Rattle.input_files.specs.declared.source.Source.TheVariants.{Open}
use Rattle.input_files.proofs.Left.{beside, pushed}
use Rattle.input_files.proofs.Tried.{none_added, one_more, stops_here, no_room_here, all_open, failed_as}
use Rattle.input_files.proofs.opening.open_more.Goals as goal

pub loop-name-init : goal.loop-name-init
loop-name-init g c = record { count = search rules; added = none_added c.args.names.now _ _ }

pub loop-name-preserved : goal.loop-name-preserved
loop-name-preserved g c = record {
  count = search rules;
  added = one_more c.args.names.now c.loop-name.name-index _ _ _ _ _ _ _ c.loop-name-test.true c.loop-name.invariant.added
      (beside (source_remaining g.F.File.Read.remaining) _ c.loop-name.files.items c.deref_mut.result.now c.push.new.self.items c.open_beside.new.others (Open c.args.role c.in_ok-file.file) _ _
      c.deref_mut.ensures.value (pushed c.push.result _ _ _ _ _ (sym c.is_err.ensures.value ∙ c.if-is_err.false) (search rules) (search rules) c.push.ensures.items) c.in_ok-file.ensures.ok);
}

pub returns-in_err-file-clause-err : goal.returns-in_err-file-clause-err
returns-in_err-file-clause-err g c =
    failed_as c.args.names.now c.from_residual.result c.in_err-file.field-0.0 _ _ c.from_residual.ensures.1
    (stops_here c.args.names.now c.loop-name.name-index _ c.in_err-file.field-0.0 _ _ _ _ _ c.loop-name-test.true c.loop-name.invariant.added c.in_err-file.ensures.err)

pub returns-then-is_err-clause-err : goal.returns-then-is_err-clause-err
returns-then-is_err-clause-err g c =
    no_room_here c.args.names.now c.loop-name.name-index _ _ _ _ _ _ _ c.loop-name-test.true c.loop-name.invariant.added
    (beside (source_remaining g.F.File.Read.remaining) _ c.loop-name.files.items c.deref_mut.result.now (c.open_beside.new.others ++ Open c.args.role c.in_ok-file.file ∷ []) c.open_beside.new.others
    (Open c.args.role c.in_ok-file.file) _ _ c.deref_mut.ensures.value refl c.in_ok-file.ensures.ok)

pub returns-clause-ok : goal.returns-clause-ok
returns-clause-ok g c = all_open c.args.names.now c.loop-name.name-index _ _ _ _ (omega arith) c.loop-name.invariant.added
