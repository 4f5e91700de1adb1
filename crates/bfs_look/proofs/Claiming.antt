-- What the inode of a node says.
use Rattle.std.proofs.Common.{◌≡◌, ◌≢◌, ◌+◌, ◌-◌, ℕ, ℤ, pos, List, [], ◌∷◌, length, length-drop, take, drop, arith, refl, sym, ap, ◌∙◌, Bool, true, false, cond, Option, Some, None}
use Rattle.std.specs.Prelude.{IfSome, IsSome, ◌==◌, ◌&&◌}
use Rattle.std.specs.Option.{option_and_then}
use Rattle.std.specs.Str.{bytes_eq}
use Rattle.std.proofs.lemmas.List.{take_all}
use Rattle.bfs_bytes.specs.Fields.{run_in}
use Rattle.bfs_inode.specs.Refusals.{Names}
use Rattle.bfs_smalldata.specs.Items.{Item, items_of}
use Rattle.bfs_smalldata.specs.Edits.{named, Finds}
use Rattle.bfs_smalldata.specs.declared.item.Item as found
use Rattle.bfs_tree.specs.Trees.{Node}
use Rattle.bfs_tree.specs.declared.call.Kind.{Kind}
use Rattle.bfs_tree.specs.declared.call.Kind.TheVariants.{File, Dir, Link}
use Rattle.bfs_sound.specs.Attributes.{own_name, is_name_item}
use Rattle.bfs_sound.specs.Inodes.{kind_bits}
use Rattle.bfs_sound.specs.Nodes.{HasNode}
use Rattle.bfs_sound.specs.Volumes.{Volume}
use Rattle.bfs_look.specs.Claims.{kind_of, kind_in, name_in, own_name_in, IsCopied, IsOwnName}
use Rattle.bfs_look.specs.declared.claim.OwnName.{OwnName}
use Rattle.bfs_look.specs.declared.claim.OwnName.TheVariants as own

-- all that stands behind a place
pub tail_is : (b : List ℕ) (k : ℕ) → take (length b - k) (drop k b) ≡ drop k b
tail_is b k = take_all (length b - k) (drop k b) (let e = length-drop k b in omega (arith, e))

-- a kind is found by its bits
pub kind_back : (k : Kind) → kind_of (kind_bits k) ≡ Some k
kind_back File = refl
kind_back Dir = refl
kind_back Link = refl

same_pos : (a b : ℕ) → pos a ≡ pos b → a ≡ b
same_pos a b e = (let o : pos a ≡ pos b = e in cc)

-- a number that was read as one that isn't negative
pub number_read : (z : ℤ) (o : Option ℕ) (n : ℕ) → IfSome o (λ k. z ≡ pos k) → (o ≡ None → (k : ℕ) → z ≡ pos k → ⊥) → z ≡ pos n → o ≡ Some n
number_read z None n some none e = absurd (none refl n e)
number_read z (Some k) n some none e = ap (λ (x : ℕ). Some x) (same_pos k n (sym some ∙ e))

-- an item that is found by a name has it
named_passes : (name : List ℕ) (items : List Item) (item : Item) → named name items ≡ Some item → bytes_eq item.name name ≡ true
named_passes name [] item e = absurd (let bad : None ≡ Some item = e in cc)
named_passes name (x ∷ xs) item e = by_test (bytes_eq x.name name) refl e (named_passes name xs item)
  where
    by_test : (t : Bool) → bytes_eq x.name name ≡ t → cond t (Some x) (named name xs) ≡ Some item → (named name xs ≡ Some item → bytes_eq item.name name ≡ true) → bytes_eq item.name name ≡ true
    by_test true h is rest = let same : x ≡ item = (let o : Some x ≡ Some item = is in cc) in ap (λ (i : Item). bytes_eq i.name name) (sym same) ∙ h
    by_test false h is rest = rest is

-- it is a node's own name just where its type is CSTR
pub own_by_kind : (items : List Item) (item : Item) → named own_name items ≡ Some item → is_name_item item ≡ (item.kind == 0x43535452)
own_by_kind items item e = ap (λ (t : Bool). (item.kind == 0x43535452) && t) (named_passes own_name items item e) ∙ and_true (item.kind == 0x43535452)
  where
    and_true : (t : Bool) → (t && true) ≡ t
    and_true true = refl
    and_true false = refl

-- what a look-up of the own name says of the area
pub own_of : (area : List ℕ) (items : List Item) (o : Option Item) → items_of area ≡ Some items → named own_name items ≡ o → own_name_in area ≡ option_and_then name_in o
own_of area items o are is = ap (λ (x : Option (List Item)). option_and_then name_in (option_and_then (named own_name) x)) are ∙ ap (option_and_then name_in) is

pub no_own_name : (area : List ℕ) → items_of area ≡ None → own_name_in area ≡ None
no_own_name area none = ap (λ (x : Option (List Item)). option_and_then name_in (option_and_then (named own_name) x)) none

-- the item that was found is the own name, or isn't
pub named_is : (area : List ℕ) (items : List Item) (item : Item) (t : Bool) → items_of area ≡ Some items → named own_name items ≡ Some item → (item.kind == 0x43535452) ≡ t → own_name_in area ≡ cond t (Some item.bytes) None
named_is area items item t are is kind = own_of area items (Some item) are is ∙ ap (λ (b : Bool). cond b (Some item.bytes) None) (own_by_kind items item is ∙ kind)

-- a copy of the bytes of the item that was found
pub copied_own : (area : List ℕ) (place : found.Item) (r : OwnName) → IsSome (items_of area) → Finds area (option_and_then (named own_name) (items_of area)) (Some place) → place.kind ≡ 0x43535452
    → IsCopied (take (place.at + place.len - place.at) (drop place.at area)) r → IsOwnName area r
copied_own area place own.NoMemory some finds kind copied = tt
copied_own area place own.Missing some finds kind copied = absurd copied
copied_own area place (own.Is name) some finds kind copied = in_items (items_of area) refl some finds
  where
    size : place.at + place.len - place.at ≡ place.len
    size = omega arith

    in_found : (items : List Item) → items_of area ≡ Some items → (o : Option Item) → named own_name items ≡ o → Finds area o (Some place) → own_name_in area ≡ Some name
    in_found items are None e finds = absurd (let bad : Some place ≡ None = finds in cc)
    in_found items are (Some item) e finds =
        let cstr : (item.kind == 0x43535452) ≡ true = ap (λ (k : ℕ). k == 0x43535452) (sym finds.kind ∙ kind) in
        let bytes : item.bytes ≡ name = sym (copied ∙ ap (λ (n : ℕ). take n (drop place.at area)) size ∙ finds.bytes) in
        named_is area items item true are e cstr ∙ ap (λ (b : List ℕ). Some b) bytes

    in_items : (o : Option (List Item)) → items_of area ≡ o → IsSome o → Finds area (option_and_then (named own_name) o) (Some place) → own_name_in area ≡ Some name
    in_items None e some finds = absurd (let bad : false ≡ true = some in cc)
    in_items (Some items) e some finds = in_found items e (named own_name items) refl finds

-- ---- a node's inode

module _ (v : Volume) (id : ℕ) (n : Node) (has : HasNode v id n) where
  pub says_kind : kind_in (v.blocks id) ≡ Some n.kind
  says_kind = ap kind_of has.kind ∙ kind_back n.kind

  pub says_name : id ≢ v.geometry.root → own_name_in (drop 232 (v.blocks id)) ≡ Some n.name
  says_name apart =
      let c : (item : Item) × (named own_name has.items ≡ Some item) × (is_name_item item ≡ true) × (item.bytes ≡ n.name) = has.called.name apart in
      own_of (drop 232 (v.blocks id)) has.items (Some c.0) has.area c.1 ∙ ap (λ (t : Bool). cond t (Some c.0.bytes) None) c.2 ∙ ap (λ (b : List ℕ). Some b) c.3

  pub says_parent : id ≢ v.geometry.root → Names (run_in (v.blocks id) 44) n.parent v.geometry.shift
  says_parent apart = has.called.parent apart
