use Rattle.std.proofs.Common.{◌∙◌, ap, refl, subst}
use Rattle.host_devices.specs.Devices.{line_told}
use Rattle.host_devices.specs.Failures.{one_more}
use Rattle.host_devices.specs.Told.{Gains}
use Rattle.engine.specs.Giving.{GainsFront}
use Rattle.engine.specs.Keeping.{calls_of}
use Rattle.engine.specs.Led.{scene}
use Rattle.engine.specs.Ways.{said_all}
use Rattle.engine.proofs.Sessions.{turn_deaf, turn_done, turn_unkept, turn_unsent}
use Rattle.engine.proofs.leading.turn.Goals as goal

pub returns-in-Err-clause-turn : goal.returns-in-Err-clause-turn
returns-in-Err-clause-turn g c =
    turn_deaf g.H.Host.ways (calls_of g.K.Keep) c.in-Err.fault c.args.host.now (scene (line_told g.L.Line c.args.line.now) c.args.keep.now) (scene (line_told g.L.Line c.hear.new.self) c.args.keep.now)
    refl c.in-Err.ensures.not_heard c.in-Err.ensures.counted c.in-Err.ensures.fault

pub returns-in-Err-keep_all-clause-turn : goal.returns-in-Err-keep_all-clause-turn
returns-in-Err-keep_all-clause-turn g c =
    let s = c.step-step in
    turn_unkept g.H.Host.ways (calls_of g.K.Keep) c.in-Err-keep_all.fault c.args.host.now s.new.self (scene (line_told g.L.Line c.args.line.now) c.args.keep.now) (scene (line_told g.L.Line c.hear.new.self) c.keep_all.new.keep)
    c.in-Ok.heard (g.H.Host.keys_in s.result) (g.H.Host.news_in s.new.self s.result) (record { goes = c.requires.goes_on; next = s.ensures.next; keys_are = s.ensures.keys; news_are = s.ensures.news })
    c.in-Ok.ensures.heard c.in-Ok.ensures.counted c.in-Err-keep_all.ensures.not_kept

pub returns-in-Ok-send_all-clause-turn : goal.returns-in-Ok-send_all-clause-turn
returns-in-Ok-send_all-clause-turn g c =
    let s = c.step-step in
    turn_done g.H.Host.ways (calls_of g.K.Keep) c.args.host.now s.new.self (scene (line_told g.L.Line c.args.line.now) c.args.keep.now) (scene (line_told g.L.Line c.send_all.new.line) c.keep_all.new.keep)
    c.in-Ok.heard (g.H.Host.keys_in s.result) (g.H.Host.news_in s.new.self s.result) (g.L.Line.told c.hear.new.self) (record { goes = c.requires.goes_on; next = s.ensures.next; keys_are = s.ensures.keys; news_are = s.ensures.news })
    c.in-Ok.ensures.heard
    (subst (λ keys. Gains (g.L.Line.told c.hear.new.self) (g.L.Line.told c.send_all.new.line) (said_all keys)) (c.deref.ensures.0 ∙ c.keys-keys.ensures) c.in-Ok-send_all.ensures.sent)
    (c.in-Ok-send_all.ensures.counted ∙ c.in-Ok.ensures.counted) c.in_default.ensures.kept

pub returns-clause-turn : goal.returns-clause-turn
returns-clause-turn g c =
    let s = c.step-step in
    turn_unsent g.H.Host.ways (calls_of g.K.Keep) c.in-Err-send_all.fault c.args.host.now s.new.self (scene (line_told g.L.Line c.args.line.now) c.args.keep.now) (scene (line_told g.L.Line c.send_all.new.line) c.keep_all.new.keep)
    c.in-Ok.heard (g.H.Host.keys_in s.result) (g.H.Host.news_in s.new.self s.result) (g.L.Line.told c.hear.new.self) (record { goes = c.requires.goes_on; next = s.ensures.next; keys_are = s.ensures.keys; news_are = s.ensures.news })
    c.in-Ok.ensures.heard
    (subst (λ keys. GainsFront (g.L.Line.told c.hear.new.self) (g.L.Line.told c.send_all.new.line) keys) (c.deref.ensures.0 ∙ c.keys-keys.ensures) c.in-Err-send_all.ensures.not_sent)
    (c.in-Err-send_all.ensures.counted ∙ ap one_more c.in-Ok.ensures.counted) c.in-Err-send_all.ensures.fault c.in_default.ensures.kept
