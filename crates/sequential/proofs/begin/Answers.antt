use Rattle.std.proofs.Common.{length, refl}
use Rattle.std.proofs.lemmas.Bool.{lt-ltb, le-leb}
use Rattle.sequential.proofs.Starts.{begun}
use Rattle.sequential.proofs.begin.Goals as goal

pub returns : goal.returns
returns c =
    record {
      answers =
          rw (lt-ltb c.args.luck 2147483648 c.if-luck-ge-SEEDS.false, le-leb (length c.args.processes.now) 65536 c.if-processes-gt-PROCESSES.false, le-leb (length c.args.outside.now) (length c.args.row.now) c.if-outside-row.false) refl;
      holds =
          begun c.args.luck c.args.outside.now c.args.processes.now c.start_all.new.processes c.args.row.now c.insert_all.new.row c.insert_all.new.len _ _ c.insert_all.result
          c.start_all.ensures c.if-outside-row.false c.insert_all.auto.row c.insert_all.ensures;
    }
