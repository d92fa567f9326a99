use Rattle.tape_blocks.proofs.Feeding.{came_open}
use Rattle.tape_blocks.proofs.reader.TapeReader.needs.Goals as goal

pub returns-in-Open-clause-known : goal.returns-in-Open-clause-known
returns-in-Open-clause-known c = λ fed more blocks start going h tape.
    c.needs.ensures.known fed more blocks start
    (came_open c.self.inside.partial c.self.inside.state c.args.self.now fed c.self.view_is c.in-Open.is h) tape
