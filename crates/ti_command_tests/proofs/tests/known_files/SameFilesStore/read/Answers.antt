use Rattle.std.proofs.Common.{ℕ, List}
use Rattle.std.specs.Prelude.{Err, Ok, OnOk, Result, Some}
use Rattle.ti_tool.specs.Streams.{AreAppended, AreContents, Gives, Stream}
use Rattle.ti_command_tests.proofs.tests.known_files.SameFilesStore.read.Goals as goal

-- what a source loses is what it has
lost : {E : Type 0} (r : Result (Unit {0}) E) (left0 left1 : Stream) (old new : List ℕ) → OnOk r (AreAppended (Gives left0 left1) old new) → OnOk r (AreAppended (AreContents left0) old new)
lost (Ok u) left0 left1 old new (bytes, (are, took), is) = (bytes, are, is)
lost (Err e) left0 left1 old new read = tt

pub returns : goal.returns
returns g c = record { contents = lost c.read_contents.result (Some c.args.self.now.bytes.now) (Some c.read_contents.new.source.now) c.args.contents.now.items c.read_contents.new.contents.items c.read_contents.ensures }
