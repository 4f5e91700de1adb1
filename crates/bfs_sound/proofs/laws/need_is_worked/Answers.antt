use Rattle.std.proofs.Common.{◌≡◌, ◌/◌, ◌+◌, ◌*◌, max, min, refl, sym, ap, subst, arith}
use Rattle.bfs_super.specs.Conditions.{ceil}
use Rattle.bfs_super.specs.Geometry.{bitmap_length}
use Rattle.bfs_sound.proofs.laws.need_is_worked.Goals as goal

pub returns : goal.returns
returns c = record {
  rows = λ v. let none : min 0 (bitmap_length v.geometry.blocks v.geometry.block_size) ≡ 0 = omega arith in ap (λ b. 112 + b + 8) none;
  none = refl;
  one = refl;
  two = refl;
  arrays = λ v e. subst (λ n. ceil 129 128 + 3 * max 1 (4096 / n) ≡ 14) (sym e) refl;
}
