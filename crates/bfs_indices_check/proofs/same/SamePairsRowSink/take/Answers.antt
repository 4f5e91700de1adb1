use Rattle.std.proofs.Common.{◌++◌, ℕ, List, map, subst}
use Rattle.std.specs.List.{flat_map}
use Rattle.bfs_index_check.specs.Compared.{pairs_of, row_pairs, AreMet}
use Rattle.bfs_index_check.proofs.Prefixes.{keyed}
use Rattle.bfs_indices_check.proofs.Samely.{row_behind}
use Rattle.bfs_indices_check.proofs.same.SamePairsRowSink.take.Goals as goal

pub returns-in-Some : goal.returns-in-Some
returns-in-Some c = record {
  took = λ start rows before. (
    before.0,
    λ begin same.
        let wanted = pairs_of c.args.self.now.wanted.now in
        row_behind wanted c.in-Some.to rows (record { key = c.args.key.now; numbers = c.args.numbers })
        (subst (λ (ns : List ℕ). AreMet wanted c.in-Some.to (flat_map row_pairs rows ++ map (keyed c.args.key.now) ns)) c.as_slice.ensures (c.in-Some.ensures (flat_map row_pairs rows) (before.1 begin same))),
  );
}
