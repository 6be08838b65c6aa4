use Rattle.grants_alike.proofs.ExampleLaws.{reader_follows_writer}
use Rattle.grants_alike.proofs.a_reader_follows_a_writer.Goals as goal

pub returns : goal.returns
returns c = reader_follows_writer
