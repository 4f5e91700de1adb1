-- Faults of the calls on a tree.
use Rattle.std.proofs.Common.{◌≡◌, ◌≤◌, ℕ, List, [], ◌∷◌, length, Option, Some, refl, ap, sym, ◌∙◌, subst, arith, inl, inr}
use Rattle.bfs_node.specs.Lists.{times}
use Rattle.bfs_node.specs.BaseKeyKind.{KeyKind}
use Rattle.bfs_node.specs.declared.fault.PageKind.{PageKind}
use Rattle.bfs_node.specs.declared.fault.TreeFault.{TreeFault}
use Rattle.bfs_node.specs.declared.fault.TreeFault.TheVariants.{Exists, Absent, Damaged, Pages, NoMemory}
use Rattle.bfs_pages.specs.Answers.{IsChild, IsLink, IsOfKind, IsUnread, IsAt, IsOfPages, IsHeaderPage, IsRefused, IsTurned, IsSpared}
use Rattle.bfs_pages.specs.Writes.{IsFailed}
use Rattle.bfs_pages.specs.Shapes.{Shape, place}
use Rattle.bfs_pages.specs.Trees.{header_in, State, page_in, place_of, state_of, IsTree, Built, head_or, free_in}
use Rattle.bfs_pages.proofs.OfKind.{if_some, met-child, one-place}
use Rattle.bfs_pages.proofs.Splice.{self}
use Rattle.bfs_pages.proofs.Way.{place-met}

-- over a tree, no page that is of its kind is blamed
pub of-pages : {F : Type 0} (kind : KeyKind) (told : Option (List ℕ)) (cause : F → Type 0) (b : List ℕ) (at : ℕ) (sort : PageKind) (fault : TreeFault F)
    → IsUnread kind told cause fault → IsAt at sort fault → told ≡ Some b → IsOfKind kind b at sort → IsOfPages fault
of-pages kind told cause b at sort Exists u i e k = u
of-pages kind told cause b at sort Absent u i e k = u
of-pages kind told cause b at sort (Damaged page found) u i e k =
    absurd (if_some (λ bytes. IsOfKind kind bytes page found → ⊥) told b u e (subst (λ s. IsOfKind kind b page s) (sym i.1) (subst (λ a. IsOfKind kind b a sort) (sym i.0) k)))
of-pages kind told cause b at sort (Pages fault) u i e k = tt
of-pages kind told cause b at sort NoMemory u i e k = u

pub unread-before : {F : Type 0} (kind : KeyKind) (told : Option (List ℕ)) (cause before : F → Type 0) (fault : TreeFault F) → ((f : F) → cause f → before f) → IsUnread kind told cause fault → IsUnread kind told before fault
unread-before kind told cause before Exists m u = u
unread-before kind told cause before Absent m u = u
unread-before kind told cause before (Damaged page sort) m u = u
unread-before kind told cause before (Pages fault) m u = m fault u
unread-before kind told cause before NoMemory m u = u

-- the free pages are pages
pub free-child : (st : State) (reached : List ℕ) (t : Shape) (fs : List ℕ) (x : ℕ) → Built st reached t fs → 1 ≤ times x fs → IsChild st.size x
free-child st reached t fs x h i = one-place st.size x (omega (arith, h.once x, i))

free-link : (st : State) (reached : List ℕ) (t : Shape) (fs ys : List ℕ) → Built st reached t fs → ((x : ℕ) → times x ys ≤ times x fs) → IsLink st.size (head_or 0 ys)
free-link st reached t fs [] h i = inl refl
free-link st reached t fs (y ∷ ys) h i = inr (free-child st reached t fs y h (omega (arith, i y, self y ys)))

pub tree-header : (kind : KeyKind) (b reached : List ℕ) (t : Shape) (fs : List ℕ) → IsTree kind b reached t fs → IsHeaderPage kind b (header_in b)
tree-header kind b reached t fs tree = by_list fs tree
  where
    root : (ys : List ℕ) → IsTree kind b reached t ys → IsChild (length b) (place_of (header_in b).root_pointer)
    root ys tree = subst (λ x. IsChild (length b) x) tree.holds.built.root (met-child (state_of kind b) reached t ys (place t) tree.holds.built (place-met t))

    by_list : (ys : List ℕ) → IsTree kind b reached t ys → IsHeaderPage kind b (header_in b)
    by_list [] tree = (record { tree = tree.header; root = root [] tree; free = inl tree.holds.built.chain }, inl tree.holds.built.chain)
    by_list (y ∷ ys) tree = (
      record {
        tree = tree.header;
        root = root (y ∷ ys) tree;
        free = inr (subst (λ x. IsChild (length b) x) (sym tree.holds.built.chain.0) (free-child (state_of kind b) reached t (y ∷ ys) y tree.holds.built (self y ys)));
      },
      inr (head_or 0 ys, ap (λ x. free_in (page_in b x)) tree.holds.built.chain.0 ∙ tree.holds.built.chain.1, free-link (state_of kind b) reached t (y ∷ ys) ys tree.holds.built (λ x. omega arith)),
    )

pub failed-refused : {F : Type 0} (kind : KeyKind) (told : Option (List ℕ)) (cause before : F → Type 0) (fault : TreeFault F) → ((f : F) → cause f → before f) → IsFailed cause fault → IsRefused kind told before fault
failed-refused kind told cause before Exists m u = u
failed-refused kind told cause before Absent m u = u
failed-refused kind told cause before (Damaged page sort) m u = absurd u
failed-refused kind told cause before (Pages fault) m u = m fault u
failed-refused kind told cause before NoMemory m u = tt

pub turned-refused : {F : Type 0} (kind : KeyKind) (told : Option (List ℕ)) (cause before : F → Type 0) (fault : TreeFault F) → ((f : F) → cause f → before f) → IsTurned cause fault → IsRefused kind told before fault
turned-refused kind told cause before Exists m u = u
turned-refused kind told cause before Absent m u = u
turned-refused kind told cause before (Damaged page sort) m u = absurd u
turned-refused kind told cause before (Pages fault) m u = m fault u
turned-refused kind told cause before NoMemory m u = tt

pub unread-refused : {F : Type 0} (kind : KeyKind) (told : Option (List ℕ)) (cause before : F → Type 0) (fault : TreeFault F) → ((f : F) → cause f → before f) → IsUnread kind told cause fault → IsRefused kind told before fault
unread-refused kind told cause before Exists m u = u
unread-refused kind told cause before Absent m u = u
unread-refused kind told cause before (Damaged page sort) m u = u
unread-refused kind told cause before (Pages fault) m u = m fault u
unread-refused kind told cause before NoMemory m u = tt

pub refused-before : {F : Type 0} (kind : KeyKind) (told : Option (List ℕ)) (cause before : F → Type 0) (fault : TreeFault F) → ((f : F) → cause f → before f) → IsRefused kind told cause fault → IsRefused kind told before fault
refused-before kind told cause before Exists m u = u
refused-before kind told cause before Absent m u = u
refused-before kind told cause before (Damaged page sort) m u = u
refused-before kind told cause before (Pages fault) m u = m fault u
refused-before kind told cause before NoMemory m u = tt

pub failed-spared : {F : Type 0} (told : Option (List ℕ)) (cause : F → Type 0) (fault : TreeFault F) → IsFailed cause fault → IsSpared told fault
failed-spared told cause Exists u = u
failed-spared told cause Absent u = u
failed-spared told cause (Damaged page sort) u = u
failed-spared told cause (Pages fault) u = tt
failed-spared told cause NoMemory u = absurd u

pub pages-spared : {F : Type 0} (told : Option (List ℕ)) (fault : TreeFault F) → IsOfPages fault → IsSpared told fault
pages-spared told Exists u = u
pages-spared told Absent u = u
pages-spared told (Damaged page sort) u = u
pages-spared told (Pages fault) u = tt
pages-spared told NoMemory u = absurd u
