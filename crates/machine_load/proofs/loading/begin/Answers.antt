use Rattle.std.proofs.Common.{refl, sym, subst, ◌∙◌, inr, [], ◌∷◌}
use Rattle.host_devices.specs.Devices.{line_told}
use Rattle.host_devices.specs.Told.{Gains}
use Rattle.machine_load.specs.Asked.{opened_as}
use Rattle.machine_load.specs.Looks.{AreLooks}
use Rattle.machine_load.specs.Scene.{around_of}
use Rattle.machine_load.proofs.Faults.{all_stand, behind_looks_fault, same_text}
use Rattle.machine_load.specs.RecordDisk.{DiskAsked, IsNotBegunOn, begun_text}
use Rattle.machine_load.proofs.loading.begin.Goals as goal

pub returns-in-Some-hindrance-clause-begun : goal.returns-in-Some-hindrance-clause-begun
returns-in-Some-hindrance-clause-begun g c = inr (record {
  first_looks = record {
    may_write = c.if-not-writable.false;
    goes_on = sym c.end.ensures ∙ c.in_default.is;
    connected = c.in_ok-line.ensures.step;
    record_same = c.connect.ensures.same;
    disk_same = c.connect.ensures.disk;
    line = line_told g.S.Line.Line c.in_ok-line.line;
    fresh = c.in_ok-line.ensures.fresh;
    looks = c.look-looks.result;
    looks_are = refl;
    behind = line_told g.S.Line.Line c.look-looks.new.line;
    looked = subst (λ asked. AreLooks c.args.first asked c.look-looks.result (line_told g.S.Line.Line c.in_ok-line.line) (line_told g.S.Line.Line c.look-looks.new.line)) c.asks_for_highest-highest.ensures c.look-looks.ensures;
  };
  held_up = sym c.hindrance.ensures ∙ c.in-Some-hindrance.is;
  core_is = c.host.ensures ∙ c.behind-first.ensures;
  no_stubs = refl;
  not_again = refl;
  has_line = refl;
})

pub returns-in-Ok-clause-begun : goal.returns-in-Ok-clause-begun
returns-in-Ok-clause-begun g c = record {
  between = around_of g.S.Surroundings c.connect.new.self;
  first_looks = record {
    may_write = c.if-not-writable.false;
    goes_on = sym c.end.ensures ∙ c.in_default.is;
    connected = c.in_ok-line.ensures.step;
    record_same = c.connect.ensures.same;
    disk_same = c.connect.ensures.disk;
    line = line_told g.S.Line.Line c.in_ok-line.line;
    fresh = c.in_ok-line.ensures.fresh;
    looks = c.look-looks.result;
    looks_are = refl;
    behind = line_told g.S.Line.Line c.look-looks.new.line;
    looked = subst (λ asked. AreLooks c.args.first asked c.look-looks.result (line_told g.S.Line.Line c.in_ok-line.line) (line_told g.S.Line.Line c.look-looks.new.line)) c.asks_for_highest-highest.ensures c.look-looks.ensures;
  };
  all_stand = all_stand _ _ _ _ c.look-looks.ensures.looked.found (sym c.hindrance.ensures ∙ c.in_default-hindrance.is);
  first_is = c.behind-first.ensures;
  line_is = refl;
  record_begun = c.in-Ok.ensures.step;
  begun_there = rw (c.plan-2.ensures, c.verified-2.ensures.value) at c.in-Ok.ensures.disk;
  begun_so = rw (c.plan-2.ensures, c.verified-2.ensures.value) at c.in-Ok.ensures.keeper;
  room_is = c.in_ok-room_behind.ensures;
}

pub returns-in-Err-clause-fault : goal.returns-in-Err-clause-fault
returns-in-Err-clause-fault g c = rw (c.from.ensures) (behind_looks_fault (opened_as c.args.first c.args.fast c.args.writable) _ (around_of g.S.Surroundings c.connect.new.self) (around_of g.S.Surroundings c.let_go.new.self) _ _
    c.in-Err.fault c.in-Err.ensures.fault c.if-not-writable.false c.in_ok-line.ensures.step (rw (sym c.let_go.ensures.steps) at c.in-Err.ensures.step) (record {
      line = line_told g.S.Line.Line c.in_ok-line.line;
      fresh = c.in_ok-line.ensures.fresh;
      looks = c.look-looks.result;
      behind = line_told g.S.Line.Line c.look-looks.new.line;
      looked = subst (λ asked. AreLooks c.args.first asked c.look-looks.result (line_told g.S.Line.Line c.in_ok-line.line) (line_told g.S.Line.Line c.look-looks.new.line)) c.asks_for_highest-highest.ensures c.look-looks.ensures;
      all_stand = all_stand _ _ _ _ c.look-looks.ensures.looked.found (sym c.hindrance.ensures ∙ c.in_default-hindrance.is);
      given = subst (λ lines. Gains lines (g.S.Surroundings.lines c.let_go.new.self) (line_told g.S.Line.Line c.look-looks.new.line ∷ []))
          (c.in-Err.ensures.lines ∙ c.in_ok-line.ensures.lines) c.let_go.ensures.lines;
    })
    (subst (λ text. DiskAsked (g.S.Surroundings.disk c.args.around.now) (g.S.Surroundings.disk c.let_go.new.self) (IsNotBegunOn text))
    (same_text c.args.first c.behind-first.result c.look-looks.result c.behind-first.ensures (all_stand _ _ _ _ c.look-looks.ensures.looked.found (sym c.hindrance.ensures ∙ c.in_default-hindrance.is)))
    (subst (λ disk. DiskAsked disk (g.S.Surroundings.disk c.let_go.new.self) (IsNotBegunOn (begun_text c.behind-first.result.plan c.behind-first.result.verified))) c.connect.ensures.disk
    (rw (c.let_go.ensures.disk) (rw (c.plan-2.ensures, c.verified-2.ensures.value) at c.in-Err.ensures.disk)))))
