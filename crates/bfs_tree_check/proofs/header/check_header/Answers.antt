use Rattle.std.proofs.Common.{rules, ◌≡◌, ◌∙◌, ℤ, pos, inr, refl, sym, ap, subst, w64, to_z, of_z}
use Rattle.std.proofs.lemmas.Bool.{true≢false}
use Rattle.std.proofs.lemmas.Result.{IfErr-weaker, on_ok_weaker}
use Rattle.bfs_node.specs.declared.header.Header.{Header}
use Rattle.bfs_finding.specs.TreeFaults.{no_level, wanted_link}
use Rattle.bfs_pages.specs.Answers.{IsChild, IsLink}
use Rattle.bfs_pages.specs.Trees.{place_of}
use Rattle.bfs_walk.specs.declared.fault.TreeWrong.TheVariants.{Link}
use Rattle.bfs_tree_check.specs.Amiss.{IsAmissIn, other_size, other_kind}
use Rattle.bfs_tree_check.proofs.Tops.{none_if, root_wrong, free_wrong}
use Rattle.bfs_tree_check.proofs.header.check_header.Goals as goal

pub returns-then-not-has_kind-clause-wrong : goal.returns-then-not-has_kind-clause-wrong
returns-then-not-has_kind-clause-wrong c = λ b is long.
    inr (refl, other_kind (λ e. true≢false (sym (c.has_kind.ensures.1 (ap (λ (h : Header). h.data_type) is ∙ e)) ∙ c.if-not-has_kind.true)) refl)

pub returns-then-not-has_level-clause-wrong : goal.returns-then-not-has_level-clause-wrong
returns-then-not-has_level-clause-wrong c = λ b is long.
    no_level (sym (ap (λ (h : Header). h.levels) is) ∙ none_if c.args.header.levels (λ some. true≢false (sym (c.has_level.ensures.1 some) ∙ c.if-not-has_level.true))) refl refl refl

pub returns-then-not-tells_size-clause-wrong : goal.returns-then-not-tells_size-clause-wrong
returns-then-not-tells_size-clause-wrong c = λ b is long.
    inr (refl, other_size (λ e. true≢false (sym (c.tells_size.ensures.1 (ap (λ (h : Header). h.maximum_size) is ∙ e ∙ ap pos (sym long))) ∙ c.if-not-tells_size.true)) refl)

pub returns-in-Err-clause-wrong : goal.returns-in-Err-clause-wrong
returns-in-Err-clause-wrong c = λ b is long.
    let same : to_z w64 (of_z w64 c.args.header.root_pointer) ≡ c.args.header.root_pointer = search rules in
    let w = subst (λ (z : ℤ). (c.in-Err.wrong ≡ Link 0 z (wanted_link z)) × ¬ IsChild c.args.size (place_of z)) same c.in-Err.ensures.wrong in
    subst (IsAmissIn c.args.kind b) (sym w.0) (root_wrong c.args.kind b c.args.size c.args.header.root_pointer (ap (λ (h : Header). h.root_pointer) is) long w.1)

pub returns-clause-wrong : goal.returns-clause-wrong
returns-clause-wrong c = λ b is long.
    let same : to_z w64 (of_z w64 c.args.header.free_pointer) ≡ c.args.header.free_pointer = search rules in
    IfErr-weaker c.check_free.result _ (IsAmissIn c.args.kind b)
    (λ wrong h.
    let w = subst (λ (z : ℤ). (wrong ≡ Link 0 z (wanted_link z)) × ¬ IsLink c.args.size (place_of z)) same h in
    subst (IsAmissIn c.args.kind b) (sym w.0) (free_wrong c.args.kind b c.args.size c.args.header.free_pointer (ap (λ (h : Header). h.free_pointer) is) long w.1))
    c.check_free.ensures.wrong

pub returns-clause-good : goal.returns-clause-good
returns-clause-good c =
    let root : to_z w64 (of_z w64 c.args.header.root_pointer) ≡ c.args.header.root_pointer = search rules in
    let free : to_z w64 (of_z w64 c.args.header.free_pointer) ≡ c.args.header.free_pointer = search rules in
    on_ok_weaker c.check_free.result
    (λ link. record {
      tree = record { header = c.requires.header; kind_is = c.has_kind.ensures.0 c.if-not-has_kind.false; levels = c.has_level.ensures.0 c.if-not-has_level.false; maximum = c.tells_size.ensures.0 c.if-not-tells_size.false };
      root = subst (λ (z : ℤ). IsChild c.args.size (place_of z)) root c.in-Ok.ensures.sound;
      free = subst (λ (z : ℤ). IsLink c.args.size (place_of z)) free link;
    })
    c.check_free.ensures.sound
