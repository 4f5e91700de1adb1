use Rattle.std.proofs.Common.{◌≡◌, ◌∙◌, ℕ, List, true, false, cond, Option, Some, None, codes, sym, ap, subst}
use Rattle.std.specs.Prelude.{MatchResult}
use Rattle.std.specs.Str.{bytes_eq}
use Rattle.bfs_bytes.specs.Fields.{unsigned_bytes, signed64_bytes}
use Rattle.bfs_tree.specs.Listings.{key_in}
use Rattle.bfs_tree.specs.Trees.{is_file}
use Rattle.bfs_tree.specs.declared.reply.Info.{Info}
use Rattle.bfs_maps.specs.Refused.{IsUndone}
use Rattle.bfs_node_key.proofs.Cases.{key_by_size, key_by_time, key_by_attribute}
use Rattle.bfs_node_key.proofs.key.key_in.Goals as goal

pub returns-then-eq-2-clause-key : goal.returns-then-eq-2-clause-key
returns-then-eq-2-clause-key g c m root n told has are same apart =
    let index = c.args.index.now in
    let i = c.args.info.now in
    let named : bytes_eq index (codes "name") ≡ false = sym c.eq.ensures ∙ c.if-eq.false in
    let sized : bytes_eq index (codes "size") ≡ true = sym c.eq-2.ensures ∙ c.if-eq-2.true in
    let e : cond (is_file i.kind) (Some c.size_key.result) None ≡ key_in root index c.args.kind c.args.id n =
    ap (λ (bytes : List ℕ). cond (is_file i.kind) (Some bytes) None) c.size_key.ensures
    ∙ ap (λ (x : Info). cond (is_file x.kind) (Some (unsigned_bytes 8 x.size)) None) same
    ∙ sym (key_by_size root index c.args.kind c.args.id n named sized) in
    subst (λ (o : Option (List ℕ)). MatchResult c.file_key.result (λ k. k ≡ o) IsUndone) e c.file_key.ensures.key

pub returns-then-eq-2-clause-cause : goal.returns-then-eq-2-clause-cause
returns-then-eq-2-clause-cause g c = c.file_key.ensures.cause (g.B.Blocks.counts c.args.under.now) (g.B.Blocks.counts c.args.under.now)

pub returns-then-eq-3-clause-key : goal.returns-then-eq-3-clause-key
returns-then-eq-3-clause-key g c m root n told has are same apart =
    let index = c.args.index.now in
    let i = c.args.info.now in
    let named : bytes_eq index (codes "name") ≡ false = sym c.eq.ensures ∙ c.if-eq.false in
    let sized : bytes_eq index (codes "size") ≡ false = sym c.eq-2.ensures ∙ c.if-eq-2.false in
    let timed : bytes_eq index (codes "last_modified") ≡ true = sym c.eq-3.ensures ∙ c.if-eq-3.true in
    let e : cond (is_file i.kind) (Some c.stamp_key.result) None ≡ key_in root index c.args.kind c.args.id n =
    ap (λ (bytes : List ℕ). cond (is_file i.kind) (Some bytes) None) c.stamp_key.ensures
    ∙ ap (λ (x : Info). cond (is_file x.kind) (Some (signed64_bytes x.modified)) None) same
    ∙ sym (key_by_time root index c.args.kind c.args.id n named sized timed) in
    subst (λ (o : Option (List ℕ)). MatchResult c.file_key-then-eq-3.result (λ k. k ≡ o) IsUndone) e c.file_key-then-eq-3.ensures.key

pub returns-then-eq-3-clause-cause : goal.returns-then-eq-3-clause-cause
returns-then-eq-3-clause-cause g c = c.file_key-then-eq-3.ensures.cause (g.B.Blocks.counts c.args.under.now) (g.B.Blocks.counts c.args.under.now)

pub returns-in-Ok-attribute_key-clause-key : goal.returns-in-Ok-attribute_key-clause-key
returns-in-Ok-attribute_key-clause-key g c m root n told has are same apart =
    let index = c.args.index.now in
    let named : bytes_eq index (codes "name") ≡ false = sym c.eq.ensures ∙ c.if-eq.false in
    let sized : bytes_eq index (codes "size") ≡ false = sym c.eq-2.ensures ∙ c.if-eq-2.false in
    let timed : bytes_eq index (codes "last_modified") ≡ false = sym c.eq-3.ensures ∙ c.if-eq-3.false in
    c.in-Ok-attribute_key.ensures.key m n.attributes told has are ∙ sym (key_by_attribute root index c.args.kind c.args.id n named sized timed)

pub returns-in-Err-attribute_key-clause-key : goal.returns-in-Err-attribute_key-clause-key
returns-in-Err-attribute_key-clause-key g c m root n told has are same apart = c.in-Err-attribute_key.ensures.key m n.attributes told has are
