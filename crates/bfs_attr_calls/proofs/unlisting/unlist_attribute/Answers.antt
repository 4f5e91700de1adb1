use Rattle.std.proofs.Common.{◌≡◌, ◌∙◌, [], ℕ, pos, List, Bool, Some, None, false, sym, ap, subst}
use Rattle.std.specs.List.Sorted.{IsStrictlySortedBy}
use Rattle.bfs_base.specs.declared.kind.KeyKind.{KeyKind}
use Rattle.bfs_super.specs.Geometry.{geometry_of}
use Rattle.bfs_bitmap.specs.Runs.{Room}
use Rattle.bfs_tree.specs.Listings.{key_in, pair_cmp, without_id}
use Rattle.bfs_tree.specs.Refusals.{is_built_in}
use Rattle.bfs_shift.specs.Lists.{with_pairs}
use Rattle.bfs_shift.specs.Work.{IsAtWork, IsStepped}
use Rattle.bfs_query.specs.Written.{HasIndexAt}
use Rattle.bfs_query.proofs.Ends.{goes_on_same}
use Rattle.bfs_query.specs.Indices.{IsIndexFound}
use Rattle.bfs_query.proofs.Bearing.{bears, attributes_are, can_read}
use Rattle.bfs_attr_calls.proofs.Keys.{attribute_key}
use Rattle.bfs_attr_calls.proofs.Pairs.{pairs_less}
use Rattle.bfs_attr_calls.proofs.Under.{built_out, rowless_out, keyless_out, taken_out}
use Rattle.bfs_attr_calls.proofs.unlisting.unlist_attribute.Goals as goal

pub returns-then-is_built_in-clause-unlisted : goal.returns-then-is_built_in-clause-unlisted
returns-then-is_built_in-clause-unlisted g c m tree lists n told ready is =
    record {
      last = lists;
      step = record { map = m; is = told; work = ready.work; goes_on = goes_on_same (geometry_of c.args.sup.now) c.args.bitmap.now m tree (g.E.Blocks.changed c.args.edits.now) };
      unlists = built_out tree lists c.args.id n c.args.name.now (sym c.is_built_in.ensures ∙ c.if-is_built_in.true);
    }

pub returns-in-Err-clause-undone : goal.returns-in-Err-clause-undone
returns-in-Err-clause-undone g c m tree lists told ready = c.in-Err.ensures.found m tree lists told ready

pub returns-in_default-clause-unlisted : goal.returns-in_default-clause-unlisted
returns-in_default-clause-unlisted g c m tree lists n told ready is =
    let s = geometry_of c.args.sup.now in
    let v = c.args.bitmap.now in
    let v1 = c.index_at.new.bitmap in
    let old = g.E.Blocks.changed c.args.edits.now in
    let none = subst (IsIndexFound lists c.args.name.now) c.in_default.is (c.in-Ok.ensures.found m tree lists told ready) in
    record {
      last = lists;
      step = subst (λ (r : Room). IsStepped s v r m tree tree lists [] (g.E.Blocks.told c.index_at.new.edits) old (g.E.Blocks.changed c.index_at.new.edits)) (sym c.in-Ok.ensures.bitmap)
          (subst (λ (f : ℕ → Bool). IsStepped s v v m tree tree lists [] (g.E.Blocks.told c.index_at.new.edits) old f) (sym c.in-Ok.ensures.changed)
          (record { map = m; is = c.in-Ok.ensures.told ∙ told; work = ready.work; goes_on = goes_on_same s v m tree old }));
      unlists = rowless_out tree lists c.args.id n c.args.name.now none;
    }

pub attribute_key-requires-clause-readable : goal.attribute_key-requires-clause-readable
attribute_key-requires-clause-readable g c m now =
    let told = sym c.in-Ok.ensures.told ∙ now in
    let h = c.requires.ready m told in
    let there = c.requires.there m h.tree h.lists told h.ready in
    can_read c.args.sup.now c.args.bitmap.now m h.tree h.lists [] c.args.id there.node c.requires.valid h.ready.work there.there

pub returns-in-Err-attribute_key-clause-undone : goal.returns-in-Err-attribute_key-clause-undone
returns-in-Err-attribute_key-clause-undone g c m tree lists told ready =
    let s = c.args.sup.now in
    let v = c.args.bitmap.now in
    let id = c.args.id in
    let there = c.requires.there m tree lists told ready in
    let n = there.node in
    let is = there.there in
    c.in-Err-attribute_key.ensures.key m n.attributes (c.in-Ok.ensures.told ∙ told) (bears s v m tree lists [] id n c.requires.valid ready.work is) (attributes_are s v m tree lists [] id n c.requires.valid ready.work is)

pub returns-in_default-read-clause-unlisted : goal.returns-in_default-read-clause-unlisted
returns-in_default-read-clause-unlisted g c m tree lists n told ready is =
    let s = c.args.sup.now in
    let room = geometry_of s in
    let v = c.args.bitmap.now in
    let id = c.args.id in
    let name = c.args.name.now in
    let old = g.E.Blocks.changed c.args.edits.now in
    let now = g.E.Blocks.told c.attribute_key.new.under in
    let at = subst (IsIndexFound lists name) c.in-Some.is (c.in-Ok.ensures.found m tree lists told ready) in
    let not_built : is_built_in name ≡ false = sym c.is_built_in.ensures ∙ c.if-is_built_in.false in
    let key = c.in-Ok-attribute_key.ensures.key m n.attributes (c.in-Ok.ensures.told ∙ told) (bears s v m tree lists [] id n c.requires.valid ready.work is) (attributes_are s v m tree lists [] id n c.requires.valid ready.work is) in
    let none : key_in tree.root name (lists.kinds name) id n ≡ None =
    ap (λ (k : KeyKind). key_in tree.root name k id n) (sym at.1) ∙ attribute_key tree.root name c.in-Some.at.kind id n not_built ∙ sym key ∙ c.in_default-read.is in
    record {
      last = lists;
      step = subst (λ (r : Room). IsStepped room v r m tree tree lists [] now old (g.E.Blocks.changed c.attribute_key.new.under)) (sym c.in-Ok.ensures.bitmap)
          (subst (λ (f : ℕ → Bool). IsStepped room v v m tree tree lists [] now old f) (sym (c.in-Ok-attribute_key.ensures.changed ∙ c.in-Ok.ensures.changed))
          (record { map = m; is = c.in-Ok-attribute_key.ensures.told ∙ c.in-Ok.ensures.told ∙ told; work = ready.work; goes_on = goes_on_same room v m tree old }));
      unlists = keyless_out tree lists id n name none;
    }

pub unlist_pair-requires-clause-index : goal.unlist_pair-requires-clause-index
unlist_pair-requires-clause-index g c m now =
    let between = sym c.in-Ok-attribute_key.ensures.told ∙ now in
    let told = sym c.in-Ok.ensures.told ∙ between in
    let h = c.requires.ready m told in
    let name = c.args.name.now in
    let at = subst (IsIndexFound h.lists name) c.in-Some.is (c.in-Ok.ensures.found m h.tree h.lists told h.ready) in
    subst (λ (r : Room). HasIndexAt (geometry_of c.args.sup.now) r m c.in-Some.at.inode c.in-Some.at.kind) (sym c.in-Ok.ensures.bitmap)
    (record { tree = h.tree; lists = h.lists; loose = []; name = name; work = h.ready.work; row = at.0; kind_is = sym at.1 })

pub returns-in-Ok-unlist_pair-clause-unlisted : goal.returns-in-Ok-unlist_pair-clause-unlisted
returns-in-Ok-unlist_pair-clause-unlisted g c m tree lists n told ready is =
    let s = c.args.sup.now in
    let room = geometry_of s in
    let v = c.args.bitmap.now in
    let v1 = c.index_at.new.bitmap in
    let id = c.args.id in
    let name = c.args.name.now in
    let kind : KeyKind = c.in-Some.at.kind in
    let at = subst (IsIndexFound lists name) c.in-Some.is (c.in-Ok.ensures.found m tree lists told ready) in
    let not_built : is_built_in name ≡ false = sym c.is_built_in.ensures ∙ c.if-is_built_in.false in
    let key = c.in-Ok-attribute_key.ensures.key m n.attributes (c.in-Ok.ensures.told ∙ told) (bears s v m tree lists [] id n c.requires.valid ready.work is) (attributes_are s v m tree lists [] id n c.requires.valid ready.work is) in
    let has : key_in tree.root name (lists.kinds name) id n ≡ Some c.as_slice.result.now =
    ap (λ (k : KeyKind). key_in tree.root name k id n) (sym at.1) ∙ attribute_key tree.root name kind id n not_built ∙ sym key ∙ c.in-Some-read.is ∙ ap (λ (k : List ℕ). Some k) (sym c.as_slice.ensures) in
    let less = pairs_less tree lists id n name (pos c.in-Some.at.inode) c.as_slice.result.now ready.agrees is at.0 has in
    let pairs : List (List ℕ × ℕ) = without_id id (lists.pairs name) in
    let sorted : IsStrictlySortedBy (pair_cmp kind) pairs = subst (λ (k : KeyKind). IsStrictlySortedBy (pair_cmp k) pairs) (sym at.1) less.0 in
    let t2 = g.E.Blocks.told c.unlist_pair.new.edits in
    let c2 = g.E.Blocks.changed c.unlist_pair.new.edits in
    let v2 = c.unlist_pair.new.bitmap in
    let work : IsAtWork room v1 m tree lists [] = subst (λ (r : Room). IsAtWork room r m tree lists []) (sym c.in-Ok.ensures.bitmap) ready.work in
    let step = c.in-Ok-unlist_pair.ensures.unlisted m tree lists [] name pairs (c.in-Ok-attribute_key.ensures.told ∙ c.in-Ok.ensures.told ∙ told) work at.0 (sym at.1) sorted less.1 in
    record {
      last = with_pairs lists name pairs;
      step = subst (λ (r : Room). IsStepped room r v2 m tree tree (with_pairs lists name pairs) [] t2 (g.E.Blocks.changed c.args.edits.now) c2) c.in-Ok.ensures.bitmap
          (subst (λ (f : ℕ → Bool). IsStepped room v1 v2 m tree tree (with_pairs lists name pairs) [] t2 f c2) (c.in-Ok-attribute_key.ensures.changed ∙ c.in-Ok.ensures.changed) step);
      unlists = taken_out tree lists id n name not_built;
    }

pub returns-clause-undone : goal.returns-clause-undone
returns-clause-undone g c m tree lists told ready =
    let room = geometry_of c.args.sup.now in
    let at = subst (IsIndexFound lists c.args.name.now) c.in-Some.is (c.in-Ok.ensures.found m tree lists told ready) in
    let work : IsAtWork room c.index_at.new.bitmap m tree lists [] = subst (λ (r : Room). IsAtWork room r m tree lists []) (sym c.in-Ok.ensures.bitmap) ready.work in
    c.in-Err-unlist_pair.ensures.refused m tree lists [] c.args.name.now (c.in-Ok-attribute_key.ensures.told ∙ c.in-Ok.ensures.told ∙ told) work at.0 (sym at.1)
