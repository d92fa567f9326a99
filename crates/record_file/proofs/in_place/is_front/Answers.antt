use Rattle.record_file.proofs.OldRecords.{tests_front}
use Rattle.record_file.proofs.in_place.is_front.Goals as goal

pub returns : goal.returns
returns c = tests_front c.args.front.now c.args.text.now c.starts_with.result c.starts_with.ensures.value
