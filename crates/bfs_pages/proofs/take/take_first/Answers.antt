use Rattle.std.proofs.Common.{◌≡◌, ℕ, List, Option, Some, None, IfSome, length, ap, sym, ◌∙◌, subst, refl, rules, w64, to_z, of_z}
use Rattle.bfs_node.specs.declared.header.Header.{Header}
use Rattle.bfs_txn.specs.Pages.{HasLength, IsPageAt}
use Rattle.bfs_pages.specs.Answers.{IsChild, IsLink, IsHeaderPage}
use Rattle.bfs_pages.specs.Trees.{header_in, place_of, page_in, free_in}
use Rattle.bfs_pages.proofs.Faulted.{tree-header, failed-refused}
use Rattle.bfs_pages.proofs.Reading.{page-there}
use Rattle.bfs_pages.proofs.Taking.{taken-first, not-header}
use Rattle.bfs_pages.proofs.take.take_first.Goals as goal

pub returns-in-Ok-write_header-clause-taken : goal.returns-in-Ok-write_header-clause-taken
returns-in-Ok-write_header-clause-taken g c b e h =
    let signed : to_z w64 (of_z w64 c.args.header.free_pointer) ≡ c.args.header.free_pointer = search rules in
    let at : c.place-at.result ≡ place_of c.args.header.free_pointer = c.place-at.ensures ∙ ap place_of signed in
    let child : IsChild (g.P.Pages.size c.args.pages.now) c.place-at.result = subst (λ x. IsChild (g.P.Pages.size c.args.pages.now) x) (sym at) c.requires.some in
    let n : length b ≡ g.P.Pages.size c.args.pages.now = subst (λ (t : Option (List ℕ)). HasLength t (g.P.Pages.size c.args.pages.now)) e (g.met.P.Pages.sized c.args.pages.now) in
    let r : c.get.new.into ≡ page_in b c.place-at.result =
    subst (λ (t : Option (List ℕ)). IsPageAt t c.place-at.result c.get.new.into) e c.in-Ok.ensures.page ∙ sym (page-there b c.place-at.result (g.P.Pages.size c.args.pages.now) n child) in
    let root : to_z w64 (of_z w64 c.args.header.root_pointer) ≡ c.args.header.root_pointer = search rules in
    let s = c.in-Ok-write_header.ensures.made b (c.in-Ok.ensures.told ∙ e) in
    let sign : to_z w64 (of_z w64 c.in-Some.next) ≡ c.in-Some.next = search rules in
    let f : free_in c.get.new.into ≡ Some (place_of (to_z w64 (of_z w64 c.in-Some.next))) = c.in-Some.ensures.0 ∙ ap (λ z. Some (place_of z)) (sym sign) in (
      s.0,
      s.1,
      taken-first c.args.kind b s.0 c.place-at.result _ s.2 (at ∙ ap (λ (z : Header). place_of z.free_pointer) h) child.0
          (ap free_in (sym r) ∙ f) (root ∙ ap (λ (z : Header). z.root_pointer) h) (ap (λ (z : Header). z.levels) h),
    )

pub returns-in-Err-write_header-clause-refused : goal.returns-in-Err-write_header-clause-refused
returns-in-Err-write_header-clause-refused g c h =
    failed-refused c.args.kind (g.P.Pages.told c.write_header.new.pages) (g.P.Pages.is_cause c.get.new.self c.write_header.new.pages) (g.P.Pages.is_cause c.args.pages.now c.write_header.new.pages) c.in-Err-write_header.fault
    (λ f. g.met.P.Pages.is_cause_before c.args.pages.now c.get.new.self c.write_header.new.pages f c.in-Ok.ensures.goes_on) c.in-Err-write_header.ensures.failed

pub returns-in-None-clause-refused : goal.returns-in-None-clause-refused
returns-in-None-clause-refused g c h =
    subst (λ (t : Option (List ℕ)). IfSome t (λ bytes. (◌≡◌ {A = ℕ} 0 0) × IsHeaderPage c.args.kind bytes (header_in bytes) → ⊥)) (sym c.in-Ok.ensures.told)
    (by_told (g.P.Pages.told c.args.pages.now) refl)
  where
    by_told : (o : Option (List ℕ)) → g.P.Pages.told c.args.pages.now ≡ o → IfSome o (λ bytes. (◌≡◌ {A = ℕ} 0 0) × IsHeaderPage c.args.kind bytes (header_in bytes) → ⊥)
    by_told None e = tt
    by_told (Some b) e = λ p.
        let signed : to_z w64 (of_z w64 c.args.header.free_pointer) ≡ c.args.header.free_pointer = search rules in
        let at : c.place-at.result ≡ place_of c.args.header.free_pointer = c.place-at.ensures ∙ ap place_of signed in
        let child : IsChild (g.P.Pages.size c.args.pages.now) c.place-at.result = subst (λ x. IsChild (g.P.Pages.size c.args.pages.now) x) (sym at) c.requires.some in
        let n : length b ≡ g.P.Pages.size c.args.pages.now = subst (λ (t : Option (List ℕ)). HasLength t (g.P.Pages.size c.args.pages.now)) e (g.met.P.Pages.sized c.args.pages.now) in
        let r : c.get.new.into ≡ page_in b c.place-at.result =
        subst (λ (t : Option (List ℕ)). IsPageAt t c.place-at.result c.get.new.into) e c.in-Ok.ensures.page ∙ sym (page-there b c.place-at.result (g.P.Pages.size c.args.pages.now) n child) in
        let hb : c.args.header ≡ header_in b = subst (λ (o : Option (List ℕ)). IfSome o (λ b. c.args.header ≡ header_in b)) e h in
        not-header c.args.kind b c.get.new.into (g.P.Pages.size c.args.pages.now) c.place-at.result n (at ∙ ap (λ (z : Header). place_of z.free_pointer) hb) child r
        (λ next f l. c.in-None.ensures next f (subst (λ (m : ℕ). IsLink m next) (sym c.length-size.ensures) l)) p.1

pub returns-in-None-clause-spared : goal.returns-in-None-clause-spared
returns-in-None-clause-spared g c b reached t fs e h tree =
    let refused = returns-in-None-clause-refused g c (subst (λ (o : Option (List ℕ)). IfSome o (λ b. c.args.header ≡ header_in b)) (sym e) h) in
    subst (λ (o : Option (List ℕ)). IfSome o (λ bytes. (◌≡◌ {A = ℕ} 0 0) × IsHeaderPage c.args.kind bytes (header_in bytes) → ⊥)) (c.in-Ok.ensures.told ∙ e) refused (refl, tree-header c.args.kind b reached t fs tree)
