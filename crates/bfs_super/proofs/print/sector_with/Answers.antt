use Rattle.std.proofs.Common.{◌≡◌, length, rules, refl, arith, ◌∙◌, ap}
use Rattle.bfs_super.specs.Layout.{super_at}
use Rattle.bfs_super.proofs.Whole.{all_put, length-sizes_of, length-groups_of, length-places_of}
use Rattle.bfs_super.proofs.SuperAgain.{Fits, super_again}
use Rattle.bfs_super.proofs.print.sector_with.Goals as goal

pub returns-clause-sector : goal.returns-clause-sector
returns-clause-sector c =
    let s = c.args.sup in
    let l_name : length s.name ≡ 32 = search rules in
    let l_rest : length s.rest ≡ 380 = search rules in
    all_put _ _ _ _ _ _ _ _ _ _ _ refl l_name (length-sizes_of s) (length-groups_of s) (length-places_of s) l_rest c.put_bytes.ensures c.put_sizes.ensures c.put_groups.ensures c.put_places.ensures c.put_bytes-2.ensures

pub returns-clause-again : goal.returns-clause-again
returns-clause-again c =
    let fits : Fits c.args.sup = record {
      name = search rules;
      rest = search rules;
      magic1 = search rules;
      fs_byte_order = search rules;
      block_size = omega arith;
      block_shift = omega arith;
      num_blocks = search rules;
      used_blocks = search rules;
      inode_size = search rules;
      magic2 = search rules;
      blocks_per_ag = search rules;
      ag_shift = search rules;
      num_ags = search rules;
      flags = search rules;
      log_blocks_group = search rules;
      log_blocks_start = omega arith;
      log_blocks_len = omega arith;
      log_start = search rules;
      log_end = search rules;
      magic3 = search rules;
      root_dir_group = search rules;
      root_dir_start = omega arith;
      root_dir_len = omega arith;
      indices_group = search rules;
      indices_start = omega arith;
      indices_len = omega arith;
    } in
    ap super_at (returns-clause-sector c) ∙ super_again c.args.sup fits
