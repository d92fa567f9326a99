use Rattle.tape_commands.proofs.TapeSize.{data_count-small}
use Rattle.tape_commands.proofs.check_text.put_counts.Goals as goal

pub data_count-requires : goal.data_count-requires
data_count-requires c = data_count-small _ _ c.blocks-blocks.ensures.sound c.blocks-blocks.ensures.value
