-- What is wrong with a tree in a stream: treepage, treelink and treeorder, of the stream's bytes.
use Rattle.std.specs.Prelude.{◌≡◌, ◌≢◌, ◌≤◌, ◌<◌, ◌⊎◌, ◌%◌, ℕ, ℤ, zero, suc, pos, negsuc, List, [], ◌∷◌, ◌++◌, length, true}
use Rattle.bfs_base.specs.Lists.{times, Has, IsOnce}
use Rattle.bfs_base.specs.Keys.{IsTreeKind}
use Rattle.bfs_base.specs.declared.kind.KeyKind.{KeyKind}
use Rattle.bfs_base.specs.declared.kind.KeyKind.TheVariants.{Text}
use Rattle.bfs_node.specs.declared.fault.PageFault.TheVariants.{Bounds as bounds_fault, Ends as ends_fault}
use Rattle.bfs_node.specs.Faults.{IsPageRefusal}
use Rattle.bfs_node.specs.Header.{code_of, HasMagic, HasSize, HasKind}
use Rattle.bfs_node.specs.Page.{Row, rows_of, left_of, right_of, overflow_of}
use Rattle.bfs_pages.specs.Shapes.{Entry, Precedes}
use Rattle.bfs_pages.specs.Answers.{IsChild}
use Rattle.bfs_pages.specs.Trees.{header_in, page_in, place_of, is_page}
use Rattle.bfs_values.specs.declared.link.Link.TheVariants.{Fragment, Chain, Nothing}
use Rattle.bfs_values.specs.Links.{link_in}
use Rattle.bfs_values.specs.Values.{IsFragment, IsDuplicates, fragment_count, chain_of, numbers_of_pages}
use Rattle.bfs_values.specs.Reached.{chains_in, times_named, Ends}
use Rattle.bfs_values.specs.Rows.{rows_in}
use Rattle.bfs_sound.specs.Volumes.{Volume}
use Rattle.bfs_sound.specs.Inodes.{content}
use Rattle.bfs_sound.specs.Owners.{In}
use Rattle.bfs_finding.specs.declared.finding.PagePart.{PagePart}
use Rattle.bfs_finding.specs.declared.finding.PagePart.TheVariants as parts
use Rattle.bfs_finding.specs.Ways.{HasNames, IsListed}
use Rattle.bfs_finding.specs.Walks.{Met, inners_in, leaves_in, entries_met, frees_in, fragments_in, chain_pages, pages_met}

module _ (kind : KeyKind) (bytes : List ℕ) where
  -- a page of the tree, interior or leaf
  abbrev pub IsInTree : ℕ → Type 0
  IsInTree page = Has (inners_in kind bytes) page ⊎ Has (leaves_in kind bytes) page

  -- a row of a leaf
  abbrev pub IsLeafRow : ℕ → Row → Type 0
  IsLeafRow leaf r = Has (leaves_in kind bytes) leaf × (is_page kind (page_in bytes leaf) ≡ true) × (overflow_of (page_in bytes leaf) ≡ negsuc 0) × In r (rows_of (page_in bytes leaf))

  -- the rows of a page can't be read: its counts don't fit into it, or a key ends where it may not
  abbrev pub IsBodyFault : ℕ → PagePart → Type 0
  IsBodyFault page part =
      ((part ≡ parts.Bounds) × (count : ℕ) × (keys : ℕ) × IsPageRefusal kind (page_in bytes page) (bounds_fault count keys))
      ⊎ ((part ≡ parts.Ends) × (index : ℕ) × IsPageRefusal kind (page_in bytes page) (ends_fault index))

  -- A value of a leaf means nothing; a fragment that a value names isn't one in use; of a page with a fragment that a value names,
  -- one in use isn't named by exactly one; a page of a chain is none; a number stands twice in the chain that begins there.
  pub data IsValueFault (page : ℕ) : Type 0 where
    no_link : (r : Row) → IsLeafRow page r → link_in r.1 ≡ Nothing → IsValueFault page
    no_fragment : (i : ℕ) (r : Row) → In r (rows_in kind bytes) → link_in r.1 ≡ Fragment page i → IsChild (length bytes) page → ¬ IsFragment (page_in bytes page) i → IsValueFault page
    not_one : (i : ℕ) → Has (fragments_in (rows_in kind bytes)) page → i < 16 → 0 < fragment_count (page_in bytes page) i → times_named page i (rows_in kind bytes) ≢ 1 → IsValueFault page
    no_duplicates : Has (chain_pages kind bytes) page → IsChild (length bytes) page → ¬ IsDuplicates (page_in bytes page) → IsValueFault page
    twice_there : Has (chains_in (rows_in kind bytes)) page → IsChild (length bytes) page → Ends bytes page → ¬ IsOnce (numbers_of_pages bytes (chain_of bytes page)) → IsValueFault page

  -- a page of the tree whose rows can't be read, or a value that is wrong
  pub data IsPageFault (page : ℕ) (part : PagePart) : Type 0 where
    of_body : IsInTree page → IsChild (length bytes) page → IsBodyFault page part → IsPageFault page part
    of_value : IsValueFault page → part ≡ parts.Content → IsPageFault page part

  -- A link that the tree follows, the page that has it, and the place to which it leads: the header's to the root and to the first
  -- free page, that of a free page to the next one, those of an interior page to its children, that of a leaf's value to a page
  -- with a fragment or to a chain, and that of a page of a chain to the next one.
  pub data IsFollowed (page : ℕ) (link : ℤ) (place : ℕ) : Type 0 where
    to_top : page ≡ 0 → link ≡ (header_in bytes).root_pointer → place ≡ place_of link → IsFollowed page link place
    to_free : page ≡ 0 → link ≡ (header_in bytes).free_pointer → link ≢ negsuc 0 → place ≡ place_of link → IsFollowed page link place
    to_next_free : Has (frees_in kind bytes) page → (overflow_of (page_in bytes page)) ≡ negsuc 1 → link ≡ left_of (page_in bytes page) → link ≢ negsuc 0 → place ≡ place_of link → IsFollowed page link place
    to_child : (key : List ℕ) → Has (inners_in kind bytes) page → is_page kind (page_in bytes page) ≡ true → overflow_of (page_in bytes page) ≢ negsuc 0 → In (key, link) (rows_of (page_in bytes page)) → place ≡ place_of link → IsFollowed page link place
    to_last : Has (inners_in kind bytes) page → is_page kind (page_in bytes page) ≡ true → link ≡ overflow_of (page_in bytes page) → link ≢ negsuc 0 → place ≡ place_of link → IsFollowed page link place
    to_fragment : (key : List ℕ) (i : ℕ) → IsLeafRow page (key, link) → link_in link ≡ Fragment place i → IsFollowed page link place
    to_chain : (key : List ℕ) → IsLeafRow page (key, link) → link_in link ≡ Chain place → IsFollowed page link place
    to_next : Has (chain_pages kind bytes) page → IsChild (length bytes) page → link ≡ right_of (page_in bytes page) → link ≢ negsuc 0 → place ≡ place_of link → IsFollowed page link place

  -- a page is met twice, where one that has fragments counts once
  abbrev pub IsMetTwice : ℕ → Type 0
  IsMetTwice page = (2 ≤ times page (pages_met kind bytes)) ⊎ (Has (fragments_in (rows_in kind bytes)) page × Has (pages_met kind bytes) page)

  -- no link leads to a page
  abbrev pub IsNowhere : ℕ → Type 0
  IsNowhere page = (times page (pages_met kind bytes) ≡ 0) × (times page (fragments_in (rows_in kind bytes)) ≡ 0)

-- the link that a leaf has to the last leaf before it, and to the first behind it; -1 where there is none
abbrev pub last_link : List ℕ → ℤ
last_link [] = negsuc 0
last_link (x ∷ []) = pos x
last_link (x ∷ (y ∷ ys)) = last_link (y ∷ ys)

abbrev pub first_link : List ℕ → ℤ
first_link [] = negsuc 0
first_link (x ∷ xs) = pos x

-- what is wanted where a link leads to no page and no one page is right: none (-1), or where that was found, the first page
abbrev pub wanted_link : ℤ → ℤ
wanted_link (negsuc zero) = pos 1024
wanted_link (negsuc (suc n)) = negsuc 0
wanted_link (pos n) = negsuc 0

-- treelink: the tree has no level; a link leads to no page; a page is met twice, or nowhere; a page so many pages down is no leaf, or
-- one above is; a leaf isn't linked to its neighbours; a page of the free list isn't marked as free
pub data IsLinkFault (kind : KeyKind) (bytes : List ℕ) (page : ℕ) (found wanted : ℤ) : Type 0 where
  no_level : (header_in bytes).levels ≡ 0 → page ≡ 0 → found ≡ pos 0 → wanted ≡ pos 1 → IsLinkFault kind bytes page found wanted
  no_page : (place : ℕ) → IsFollowed kind bytes page found place → ¬ IsChild (length bytes) place → wanted ≡ wanted_link found → IsLinkFault kind bytes page found wanted
  met_twice : IsChild (length bytes) page → IsMetTwice kind bytes page → found ≡ pos page → wanted ≡ negsuc 0 → IsLinkFault kind bytes page found wanted
  nowhere : IsChild (length bytes) page → IsNowhere kind bytes page → found ≡ negsuc 0 → wanted ≡ pos page → IsLinkFault kind bytes page found wanted
  no_leaf : Has (leaves_in kind bytes) page → IsChild (length bytes) page → found ≡ overflow_of (page_in bytes page) → wanted ≡ negsuc 0 → found ≢ wanted → IsLinkFault kind bytes page found wanted
  no_interior : Has (inners_in kind bytes) page → IsChild (length bytes) page → found ≡ overflow_of (page_in bytes page) → found ≡ negsuc 0 → wanted ≡ pos 1024 → IsLinkFault kind bytes page found wanted
  wrong_left : (front back : List ℕ) → leaves_in kind bytes ≡ front ++ (page ∷ back) → IsChild (length bytes) page → found ≡ left_of (page_in bytes page) → wanted ≡ last_link front → found ≢ wanted → IsLinkFault kind bytes page found wanted
  wrong_right : (front back : List ℕ) → leaves_in kind bytes ≡ front ++ (page ∷ back) → IsChild (length bytes) page → found ≡ right_of (page_in bytes page) → wanted ≡ first_link back → found ≢ wanted → IsLinkFault kind bytes page found wanted
  no_mark : Has (frees_in kind bytes) page → IsChild (length bytes) page → found ≡ overflow_of (page_in bytes page) → wanted ≡ negsuc 1 → found ≢ wanted → IsLinkFault kind bytes page found wanted

-- treeorder: of what is met from left to right, the row or the key at this place of this page isn't above what stands before it
pub record IsOrderFault (kind : KeyKind) (bytes : List ℕ) (page index : ℕ) : Type 0 where
  pub front : List Met
  pub back : List Met
  pub entry : Entry
  pub other : Met
  pub met : entries_met kind bytes ≡ front ++ ((page, index, entry) ∷ back)
  pub before : In other front
  pub wrong : ¬ Precedes kind other.2 entry

-- the inode's stream has a tree of this kind of keys: text in a tree of names, and in an index the kind that its header says
abbrev pub HasTree : Volume → ℕ → KeyKind → Type 0
HasTree v b kind = (HasNames v b × (kind ≡ Text)) ⊎ (IsListed v b × IsTreeKind kind × ((header_in (content v b)).data_type ≡ code_of kind))

-- The header of a tree: its magic number is another one; the size of its pages isn't 1,024, or the stream's size isn't the one that it
-- says, or is no multiple of 1,024; a tree of names has keys of another kind, or an index has none of the kinds of keys.
pub data IsHeaderFault (v : Volume) (b : ℕ) (part : PagePart) : Type 0 where
  no_magic : HasNames v b ⊎ IsListed v b → ¬ HasMagic (header_in (content v b)) → part ≡ parts.Magic → IsHeaderFault v b part
  no_size : HasNames v b ⊎ IsListed v b → (¬ HasSize (header_in (content v b)) ⊎ ((header_in (content v b)).maximum_size ≢ pos (length (content v b))) ⊎ (length (content v b) % 1024 ≢ 0)) → part ≡ parts.Size → IsHeaderFault v b part
  no_names : HasNames v b → (header_in (content v b)).data_type ≢ code_of Text → part ≡ parts.Kind → IsHeaderFault v b part
  no_kind : IsListed v b → ¬ HasKind (header_in (content v b)) → part ≡ parts.Kind → IsHeaderFault v b part

-- treepage: the header, or another page of a tree in the inode's stream
abbrev pub IsTreePageFault : Volume → ℕ → ℕ → PagePart → Type 0
IsTreePageFault v b page part = ((page ≡ 0) × IsHeaderFault v b part) ⊎ ((kind : KeyKind) × HasTree v b kind × IsPageFault kind (content v b) page part)

abbrev pub IsTreeLinkFault : Volume → ℕ → ℕ → ℤ → ℤ → Type 0
IsTreeLinkFault v b page found wanted = (kind : KeyKind) × HasTree v b kind × IsLinkFault kind (content v b) page found wanted

abbrev pub IsTreeOrderFault : Volume → ℕ → ℕ → ℕ → Type 0
IsTreeOrderFault v b page index = (kind : KeyKind) × HasTree v b kind × IsOrderFault kind (content v b) page index
