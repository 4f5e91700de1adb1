-- Bytes that are known stay in their blocks where files keep theirs.
use Rattle.std.proofs.Common.{◌≡◌, ◌≤◌, ◌<◌, ◌*◌, ◌/◌, inl, inr, ℕ, zero, suc, List, [], ◌∷◌, ◌++◌, length, true, false, Option, Some, None, refl, sym, ap, ◌∙◌, subst, arith}
use Rattle.std.specs.Prelude.{slice_get}
use Rattle.std.specs.FinMap.{get}
use Rattle.std.proofs.lemmas.Nat.{div_below}
use Rattle.bfs_super.specs.declared.sup.Super.{Super}
use Rattle.bfs_stream.proofs.Levels.{get_left}
use Rattle.bfs_tree.specs.declared.call.Call.{Call}
use Rattle.bfs_tree.specs.declared.call.Kind.{Kind}
use Rattle.bfs_tree.specs.declared.call.Kind.TheVariants.{File, Dir, Link}
use Rattle.bfs_tree.specs.declared.reply.Entry.{Entry}
use Rattle.bfs_tree.specs.Histories.{Mounted, Follows, IsFilePlace, after, state_after}
use Rattle.bfs_tree.specs.Trees.{Node, Tree, is_file}
use Rattle.bfs_sound.specs.Volumes.{Volume}
use Rattle.bfs_sound.specs.Inodes.{stream_blocks}
use Rattle.bfs_sound.specs.Nodes.{HasContent}
use Rattle.bfs_sound.specs.Whole.{IsSound}
use Rattle.bfs_core.specs.KnownBytes.{HasByte, KeepsFiles, block_at}
use Rattle.bfs_core.specs.Spaces.{SpaceView, face, noted}
use Rattle.bfs_replies.specs.Books.{SpaceBooks, entry_noted}
use Rattle.bfs_space.specs.Faces.{HasEntered}
use Rattle.bfs_space.specs.FileLaws.{AreThere}
use Rattle.bfs_replies.specs.Files.{AreKeptBy, KeepsBlocks, lets_go}
use Rattle.bfs_space.proofs.Known.{known_stays}

-- what stands at a place of a list stands there with more behind it
begins_get : (xs more : List ℕ) (i k : ℕ) → slice_get xs i ≡ Some k → slice_get (xs ++ more) i ≡ Some k
begins_get [] more i k is = absurd (let bad : None ≡ Some k = is in cc)
begins_get (x ∷ xs) more zero k is = is
begins_get (x ∷ xs) more (suc i) k is = begins_get xs more i k is

in_block : (place size n : ℕ) → place < size * n → place / size < n
in_block place zero n lt = absurd (omega (arith, lt))
in_block place (suc size) n lt = div_below place (suc size) n (omega arith) (let turned : place < n * suc size = grind (arith, lt) in turned)

-- a file has a block for each place below its size
size_within : (v : Volume) (id : ℕ) (n : Node) (k : Kind) → is_file k ≡ true → HasContent v id n k → n.size ≤ v.geometry.block_size * length (stream_blocks v id)
size_within v id n File file has = subst (λ (x : ℕ). x ≤ v.geometry.block_size * length (stream_blocks v id)) (sym has.1) has.0.size_high
size_within v id n Dir file has = absurd (let bad : false ≡ true = file in cc)
size_within v id n Link file has = absurd (let bad : false ≡ true = file in cc)

has_block : (v : Volume) (tree : Tree) (id place : ℕ) → IsSound v tree → IsFilePlace tree id place → place / v.geometry.block_size < length (stream_blocks v id)
has_block v tree id place sound here =
    let below = here.3 in
    let within = size_within v id here.0 here.0.kind here.2 (sound.nodes.stands.nodes id here.0 here.1).content_is in
    in_block place v.geometry.block_size (length (stream_blocks v id)) (omega (arith, below, within))

same_block : (call : Call) (id i block : ℕ) (xs ys : List ℕ) → AreKeptBy call id xs ys → slice_get xs i ≡ Some block → i < length ys → slice_get ys i ≡ slice_get xs i
same_block call id i block xs ys (inl same) is inside = ap (λ (l : List ℕ). slice_get l i) same
same_block call id i block xs ys (inr (gives, inl (more, longer))) is inside = ap (λ (l : List ℕ). slice_get l i) longer ∙ begins_get xs more i block is ∙ sym is
same_block call id i block xs ys (inr (gives, inr (more, longer))) is inside = sym (get_left ys more i inside) ∙ sym (ap (λ (l : List ℕ). slice_get l i) longer)

-- the block of a place stays
stays_there : (v w : Volume) (tree since : Tree) (call : Call) (contents : ℕ → List ℕ) (id place byte : ℕ) → KeepsBlocks v w tree since call → w.geometry.block_size ≡ v.geometry.block_size → IsSound w since
    → HasByte v tree contents id place byte → IsFilePlace since id place → block_at w id place ≡ block_at v id place
stays_there v w tree since call contents id place byte keeps size sound has here =
    let kept = keeps id has.file.0 here.0 has.file.1 has.file.2 here.1 here.2 in
    let inside : place / v.geometry.block_size < length (stream_blocks w id) = subst (λ (s : ℕ). place / s < length (stream_blocks w id)) size (has_block w since id place sound here) in
    ap (λ (s : ℕ). slice_get (stream_blocks w id) (place / s)) size
    ∙ same_block call id (place / v.geometry.block_size) has.block (stream_blocks v id) (stream_blocks w id) kept has.is inside

pub entered_keeps_files : (t0 : Mounted) (old new : SpaceBooks) (m : ℕ → Option (List ℕ)) (session tag now : ℕ) (call : Call) (contents : ℕ → List ℕ)
    → lets_go call ≡ false → HasEntered t0 old new m session tag now call → AreThere t0 old.view m contents → KeepsFiles t0 old.view new.view m contents
entered_keeps_files t0 old new m session tag now call contents lets entered there id place byte is =
    let e : Entry = entry_noted old session tag now call entered.reply in
    let items : new.view.history ≡ old.view.history ++ e ∷ [] = entered.entered.history in
    let known = known_stays t0 old.view.history e id place byte entered.entered.follows lets (subst (λ (h : List Entry). get (state_after t0 h).known (id, place) ≡ Some byte) items is) in
    let has = there id place byte known.0 in
    let here : IsFilePlace (after t0 new.view.history) id place = subst (λ (h : List Entry). IsFilePlace (after t0 h) id place) (sym items) (known.1 has.file) in
    inl (
      known.0,
      record {
        file = here;
        block = stays_there (face old.view m) (face new.view m) (after t0 old.view.history) (after t0 new.view.history) call contents id place byte entered.blocks
            (ap (λ (s : Super). s.block_size) entered.entered.same.sup) entered.entered.sound.sound has here;
      },
    )

pub note_keeps_files : (t0 : Mounted) (sp : SpaceView) (m : ℕ → Option (List ℕ)) (e : Entry) (contents : ℕ → List ℕ) → Follows t0 sp.history e → lets_go e.call ≡ false
    → after t0 (sp.history ++ e ∷ []) ≡ after t0 sp.history → AreThere t0 sp m contents → KeepsFiles t0 sp (noted sp e) m contents
note_keeps_files t0 sp m e contents follows lets same there id place byte is =
    let known = known_stays t0 sp.history e id place byte follows lets is in
    inl (known.0, record { file = known.1 (there id place byte known.0).file; block = refl })
