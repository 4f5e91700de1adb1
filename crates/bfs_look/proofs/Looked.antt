-- The answers to look-ups and listings, by what was read of a directory.
use Rattle.std.proofs.Common.{◌≡◌, ℕ, pos, List, sym, ap, ◌∙◌, subst, true, false, Option, Some, None}
use Rattle.std.specs.List.{flat_map}
use Rattle.std.specs.FinMap.{get}
use Rattle.bfs_base.specs.declared.kind.KeyKind.TheVariants.{Text}
use Rattle.bfs_super.specs.Geometry.{geometry_of}
use Rattle.bfs_super.specs.declared.sup.Super.{Super}
use Rattle.bfs_bitmap.specs.Runs.{Room}
use Rattle.bfs_pages.specs.Maps.{assoc}
use Rattle.bfs_tree.specs.Answers.{info_of, names_in}
use Rattle.bfs_tree.specs.Names.{is_bad_name}
use Rattle.bfs_tree.specs.States.{State}
use Rattle.bfs_tree.specs.Steps.{Reads}
use Rattle.bfs_tree.specs.Trees.{Node, Tree, IsNode, child, is_dir, is_link}
use Rattle.bfs_tree.specs.declared.call.Call.TheVariants as calls
use Rattle.bfs_tree.specs.declared.call.Kind.{Kind}
use Rattle.bfs_tree.specs.declared.reply.Info.{Info}
use Rattle.bfs_tree.specs.declared.reply.Reply.TheVariants as replies
use Rattle.bfs_dir.specs.Directories.{listed}
use Rattle.bfs_shift.specs.Lists.{Lists}
use Rattle.bfs_look.specs.Names.{proper_name}
use Rattle.bfs_look.specs.Ready.{IsReady}
use Rattle.bfs_look.proofs.Children.{IsIn}
use Rattle.bfs_look.proofs.Known.{dir_is}
use Rattle.bfs_look.proofs.Listed.{names_there, row_is_child, no_row_no_child, bad_no_child, row_child_is}
use Rattle.bfs_look.proofs.Replying.{lookup_none, lookup_leaf, lookup_missing, lookup_found, list_none, list_leaf, list_found, stat_none, stat_found, link_none, link_other, link_found}

-- what a state with this tree answers where a node isn't there, or isn't a directory
module _ (st : State) (tree : Tree) (same : st.tree ≡ tree) where
  pub lookup_nothing : (dir : ℕ) (name : List ℕ) → get tree.nodes dir ≡ None → Reads (calls.Lookup dir name) st replies.NotFound
  lookup_nothing dir name e = lookup_none st dir name (ap (λ (t : Tree). get t.nodes dir) same ∙ e)

  pub list_nothing : (dir : ℕ) → get tree.nodes dir ≡ None → Reads (calls.List dir) st replies.NotFound
  list_nothing dir e = list_none st dir (ap (λ (t : Tree). get t.nodes dir) same ∙ e)

  pub stat_nothing : (id : ℕ) → get tree.nodes id ≡ None → Reads (calls.Stat id) st replies.NotFound
  stat_nothing id e = stat_none st id (ap (λ (t : Tree). get t.nodes id) same ∙ e)

  pub link_nothing : (id : ℕ) → get tree.nodes id ≡ None → Reads (calls.ReadLink id) st replies.NotFound
  link_nothing id e = link_none st id (ap (λ (t : Tree). get t.nodes id) same ∙ e)

  module _ (id : ℕ) (n : Node) (is : IsNode tree id n) where
    here : IsNode st.tree id n
    here = ap (λ (t : Tree). get t.nodes id) same ∙ is

    pub lookup_no_dir : (name : List ℕ) → is_dir n.kind ≡ false → Reads (calls.Lookup id name) st replies.NotDir
    lookup_no_dir name e = lookup_leaf st id name n here e

    pub list_no_dir : is_dir n.kind ≡ false → Reads (calls.List id) st replies.NotDir
    list_no_dir e = list_leaf st id n here e

    pub link_no_link : is_link n.kind ≡ false → Reads (calls.ReadLink id) st replies.NotLink
    link_no_link e = link_other st id n here e

    pub link_there : is_link n.kind ≡ true → (bytes : List ℕ) → bytes ≡ n.target → Reads (calls.ReadLink id) st (replies.Target bytes)
    link_there link bytes e = subst (λ (b : List ℕ). Reads (calls.ReadLink id) st (replies.Target b)) (sym e) (link_found st id n here link)

    pub stat_there : (info : Info) → info ≡ info_of n → Reads (calls.Stat id) st (replies.Info info)
    stat_there info e = subst (λ (i : Info). Reads (calls.Stat id) st (replies.Info i)) (sym e) (stat_found st id n here)

module _ (s : Super) (v : Room) (m : ℕ → Option (List ℕ)) (tree : Tree) (lists : Lists) (ready : IsReady (geometry_of s) v m tree lists) (st : State) (same : st.tree ≡ tree)
    (dir : ℕ) (d : Node) (is : IsNode tree dir d) (isdir : is_dir d.kind ≡ true) where
  there : IsNode st.tree dir d
  there = ap (λ (t : Tree). get t.nodes dir) same ∙ is

  child_same : (name : List ℕ) → child st.tree dir name ≡ child tree dir name
  child_same name = ap (λ (t : Tree). child t dir name) same

  pub bad_reads : (name : List ℕ) → is_bad_name name ≡ true → Reads (calls.Lookup dir name) st replies.NotFound
  bad_reads name bad = lookup_missing st dir name d there isdir (child_same name ∙ bad_no_child s v m tree lists ready dir d is (dir_is d.kind isdir) name bad)

  pub none_reads : (name : List ℕ) → assoc Text (lists.rows dir) name ≡ None → Reads (calls.Lookup dir name) st replies.NotFound
  none_reads name none = lookup_missing st dir name d there isdir (child_same name ∙ no_row_no_child s v m tree lists ready dir d is (dir_is d.kind isdir) name none)

  pub row_in : (name : List ℕ) (id : ℕ) → is_bad_name name ≡ false → assoc Text (lists.rows dir) name ≡ Some (pos id) → IsIn tree dir name id
  row_in name id good found = row_is_child s v m tree lists ready dir d is (dir_is d.kind isdir) name id good found

  pub found_reads : (name : List ℕ) (id : ℕ) (kind : Kind) (c : IsIn tree dir name id) → kind ≡ c.node.kind → Reads (calls.Lookup dir name) st (replies.Found id kind)
  found_reads name id kind c e = subst (λ (k : Kind). Reads (calls.Lookup dir name) st (replies.Found id k)) (sym e)
      (lookup_found st dir name d there isdir id c.node (child_same name ∙ row_child_is s v m tree lists ready dir d is (dir_is d.kind isdir) name id c))

  pub listed_reads : (names : List (List ℕ)) → names ≡ flat_map proper_name (listed (lists.rows dir)) → Reads (calls.List dir) st (replies.Names names)
  listed_reads names e = list_found st dir d names there isdir (e ∙ names_there s v m tree lists ready dir d is (dir_is d.kind isdir) ∙ sym (ap (λ (t : Tree). names_in t dir) same))
