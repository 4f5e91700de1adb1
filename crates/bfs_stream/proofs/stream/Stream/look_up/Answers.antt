use Rattle.std.proofs.Common.{◌≡◌, ◌∙◌, ℕ, List, Option, Some, ap, subst}
use Rattle.bfs_inode.specs.Inode.{stream_at}
use Rattle.bfs_txn.specs.Told.{AreOfBlock}
use Rattle.bfs_stream.specs.Sizes.{Origin}
use Rattle.bfs_stream.specs.Told.{contents}
use Rattle.std.specs.Prelude.{IfErr}
use Rattle.bfs_stream.specs.Faults.{IsDamagedIn}
use Rattle.bfs_stream.proofs.Arrays.{read_is}
use Rattle.bfs_stream.proofs.Placed.{told_inode}
use Rattle.bfs_stream.proofs.stream.Stream.look_up.Goals as goal

-- the bytes that were read of the inode are those told
pub returns-clause-found : goal.returns-clause-found
returns-clause-found g c m is stands =
    let o = c.args.self.now in
    let id : c.self.inside.inode ≡ o.id = ap (λ (x : Origin). x.id) c.self.view_is in
    let of : AreOfBlock (g.B.Blocks.told c.args.under.now) o.id c.get.new.into = subst (λ (k : ℕ). AreOfBlock (g.B.Blocks.told c.args.under.now) k c.get.new.into) id c.in-Ok.ensures.bytes in
    c.look_up_by.ensures.found m (c.in-Ok.ensures.told ∙ is) stands (read_is m (g.B.Blocks.told c.args.under.now) o.id c.get.new.into is (told_inode m o stands) of)

pub returns-clause-none : goal.returns-clause-none
returns-clause-none g c m is stands =
    let o = c.args.self.now in
    let id : c.self.inside.inode ≡ o.id = ap (λ (x : Origin). x.id) c.self.view_is in
    let of : AreOfBlock (g.B.Blocks.told c.args.under.now) o.id c.get.new.into = subst (λ (k : ℕ). AreOfBlock (g.B.Blocks.told c.args.under.now) k c.get.new.into) id c.in-Ok.ensures.bytes in
    c.look_up_by.ensures.none m (c.in-Ok.ensures.told ∙ is) stands (read_is m (g.B.Blocks.told c.args.under.now) o.id c.get.new.into is (told_inode m o stands) of)

pub returns-clause-damaged : goal.returns-clause-damaged
returns-clause-damaged g c m is some =
    let o = c.args.self.now in
    let id : c.self.inside.inode ≡ o.id = ap (λ (x : Origin). x.id) c.self.view_is in
    let of : AreOfBlock (g.B.Blocks.told c.args.under.now) o.id c.get.new.into = subst (λ (k : ℕ). AreOfBlock (g.B.Blocks.told c.args.under.now) k c.get.new.into) id c.in-Ok.ensures.bytes in
    let read : c.get.new.into ≡ contents m o.id = read_is m (g.B.Blocks.told c.args.under.now) o.id c.get.new.into is some of in
    subst (λ (l : List ℕ). IfErr c.look_up_by.result (IsDamagedIn o m (stream_at l) c.args.index)) read (c.look_up_by.ensures.damaged m (c.in-Ok.ensures.told ∙ is))

pub returns-clause-blamed : goal.returns-clause-blamed
returns-clause-blamed g c =
    let o = c.args.self.now in
    let id : c.self.inside.inode ≡ o.id = ap (λ (x : Origin). x.id) c.self.view_is in
    let pair : ℕ → List ℕ → Option (ℕ × List ℕ) = λ k l. Some (k, l) in
    c.look_up_by.ensures.blamed (c.in-Ok.ensures.last ∙ ap (λ (k : ℕ). pair k c.get.new.into) id)
