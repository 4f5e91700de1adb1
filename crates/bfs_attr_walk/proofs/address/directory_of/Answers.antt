use Rattle.std.proofs.Common.{rules, ◌≡◌, ◌∙◌, ℤ, false, sym, subst, w64, to_z, of_z}
use Rattle.bfs_stream.specs.Sizes.{sizes_of}
use Rattle.bfs_sound.specs.Attributes.{is_zero}
use Rattle.bfs_sound.specs.Volumes.{Volume}
use Rattle.bfs_sound.specs.Whole.{volume_of}
use Rattle.bfs_finding.specs.StreamFaults.{IsStreamFault}
use Rattle.bfs_attr_walk.proofs.Addresses.{wrong_there}
use Rattle.bfs_attr_walk.proofs.address.directory_of.Goals as goal

pub returns-in-Err-clause-wrong : goal.returns-in-Err-clause-wrong
returns-in-Err-clause-wrong c bs same reached =
    let v : Volume = volume_of c.args.sup bs in
    let some : is_zero c.run_at-run.result ≡ false = sym c.is_zero_run-none.ensures ∙ c.if-none.false in
    let found : to_z w64 (of_z w64 c.in-Err.wrong.found) ≡ c.in-Err.wrong.found = search rules in
    let wanted : to_z w64 (of_z w64 c.in-Err.wrong.wanted) ≡ c.in-Err.wrong.wanted = search rules in
    subst (λ (z : ℤ). IsStreamFault v c.args.id z (to_z w64 (of_z w64 c.in-Err.wrong.wanted))) (sym found)
    (subst (λ (z : ℤ). IsStreamFault v c.args.id c.in-Err.wrong.found z) (sym wanted)
    (wrong_there c.args.sup bs c.args.id c.args.bytes.now c.run_at-run.result same c.run_at-run.ensures c.in-Err.wrong.found c.in-Err.wrong.wanted some reached
    (c.in-Err.ensures.wrong (sizes_of c.args.sup) (sym c.extent_of.ensures.groups) (sym c.extent_of.ensures.blocks))))
