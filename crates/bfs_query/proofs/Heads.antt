-- The kind of keys of a tree, by its first page.
use Rattle.std.proofs.Common.{◌≡◌, ◌≤◌, ◌+◌, ◌*◌, ◌%◌, ℕ, zero, suc, List, [], ◌∷◌, length, take, refl, sym, ap, ◌∙◌, subst, arith, true, Option}
use Rattle.std.specs.Prelude.{min}
use Rattle.std.proofs.lemmas.List.{length-take, length-take-le, take-take}
use Rattle.std.specs.List.{flat_map}
use Rattle.bfs_base.specs.Lists.{times}
use Rattle.bfs_base.specs.declared.kind.KeyKind.{KeyKind}
use Rattle.bfs_base.specs.declared.kind.KeyKind.TheVariants.{Text, I32, U32, I64, U64, F32, F64}
use Rattle.bfs_node.specs.Header.{header_at, code_of, IsHeader}
use Rattle.bfs_node.specs.Faults.{IsHeaderRefusal}
use Rattle.bfs_node.specs.declared.fault.PageFault.{PageFault}
use Rattle.bfs_node.specs.declared.fault.PageFault.TheVariants.{Magic, Size, Kind, Bounds, Ends}
use Rattle.bfs_node.specs.declared.header.Header.{Header}
use Rattle.bfs_pages.specs.Shapes.{met_by}
use Rattle.bfs_pages.specs.Trees.{held, is_place, header_in}
use Rattle.bfs_pages.proofs.Placed.{held_place, held_most}
use Rattle.bfs_super.specs.Conditions.{natural}
use Rattle.bfs_stream.specs.Places.{fields, places_at, bytes_at}
use Rattle.bfs_stream.specs.Sizes.{Origin}
use Rattle.bfs_stream.specs.Told.{contents}
use Rattle.bfs_stream_pages.specs.Held.{IsReadable, stream_of}
use Rattle.bfs_values.specs.Reached.{IsWholeTree}

-- ---- kinds and their numbers

abbrev pub kind_by : ℕ → KeyKind
kind_by zero = Text
kind_by (suc zero) = I32
kind_by (suc (suc zero)) = U32
kind_by (suc (suc (suc zero))) = I64
kind_by (suc (suc (suc (suc zero)))) = U64
kind_by (suc (suc (suc (suc (suc zero))))) = F32
kind_by (suc (suc (suc (suc (suc (suc n)))))) = F64

pub kind_back : (k : KeyKind) → kind_by (code_of k) ≡ k
kind_back Text = refl
kind_back I32 = refl
kind_back U32 = refl
kind_back I64 = refl
kind_back U64 = refl
kind_back F32 = refl
kind_back F64 = refl

pub same_code : (a b : KeyKind) → code_of a ≡ code_of b → a ≡ b
same_code a b e = sym (kind_back a) ∙ ap kind_by e ∙ kind_back b

-- ---- a whole tree has a header

low_place : (n : ℕ) → is_place n 0 ≡ true → n % 1024 ≡ 0 → 1024 ≤ n
low_place n e whole = let some : 1 ≤ n = grind (arith, e) in omega (arith, some, whole)

pub has_page : (kind : KeyKind) (bytes : List ℕ) → IsWholeTree kind bytes → 1024 ≤ length bytes
has_page kind bytes whole =
    let once : times 0 (0 ∷ []) + times 0 whole.reached + times 0 (met_by whole.shape) + times 0 whole.free ≡ held (length bytes) 0 = whole.tree.holds.built.once 0 in
    let one : times 0 (0 ∷ []) ≡ 1 = grind arith in
    let most = held_most (length bytes) 0 in
    low_place (length bytes) (held_place (length bytes) 0 (omega (arith, once, one, most))) whole.whole

pub page_is : (kind : KeyKind) (bytes page : List ℕ) → IsWholeTree kind bytes → page ≡ take 1024 bytes → length page ≡ 1024
page_is kind bytes page whole e = ap length e ∙ length-take-le 1024 bytes (has_page kind bytes whole)

pub header_there : (kind : KeyKind) (bytes page : List ℕ) → IsWholeTree kind bytes → page ≡ take 1024 bytes → header_at page ≡ header_in bytes
header_there kind bytes page whole e = ap header_at e

pub kind_there : (kind k : KeyKind) (bytes page : List ℕ) → IsWholeTree kind bytes → page ≡ take 1024 bytes → code_of k ≡ (header_at page).data_type → k ≡ kind
kind_there kind k bytes page whole e code = same_code k kind (code ∙ ap (λ (h : Header). h.data_type) (header_there kind bytes page whole e) ∙ whole.tree.header.kind_is)

pub not_refused : (kind : KeyKind) (bytes page : List ℕ) (fault : PageFault) → IsWholeTree kind bytes → page ≡ take 1024 bytes → IsHeaderRefusal (header_at page) fault → ⊥
not_refused kind bytes page fault whole e bad = by_fault fault bad
  where
    fine : IsHeader (header_at page)
    fine = subst IsHeader (sym (header_there kind bytes page whole e)) whole.tree.header.header

    by_fault : (f : PageFault) → IsHeaderRefusal (header_at page) f → ⊥
    by_fault (Magic found) r = r.0 fine.magic_is
    by_fault (Size found) r = r.1 fine.size
    by_fault (Kind found) r = r.2 fine.kind
    by_fault (Bounds count bytes) r = r
    by_fault (Ends index) r = r

-- ---- the first page of a stream that can be read

size_long : (o : Origin) (m : ℕ → Option (List ℕ)) (kind : KeyKind) → IsWholeTree kind (stream_of o m) → 1024 ≤ natural (fields o.sizes (contents m) o.id).size
unfolding bytes_at
size_long o m kind whole =
    let some : 1024 ≤ length (stream_of o m) = has_page kind (stream_of o m) whole in
    let cut : length (stream_of o m) ≡ min (natural (fields o.sizes (contents m) o.id).size) (length (flat_map (contents m) (places_at o.sizes (contents m) o.id))) = length-take (natural (fields o.sizes (contents m) o.id).size) (flat_map (contents m) (places_at o.sizes (contents m) o.id)) in
    omega (arith, some, cut)

pub first_page : (o : Origin) (m : ℕ → Option (List ℕ)) (long : ℕ) (kind : KeyKind) (page : List ℕ) → IsReadable o long m → IsWholeTree kind (stream_of o m)
    → page ≡ take 1024 (flat_map (contents m) (places_at o.sizes (contents m) o.id)) → page ≡ take 1024 (stream_of o m)
unfolding bytes_at
first_page o m long kind page r whole e = e ∙ sym (take-take 1024 (natural (fields o.sizes (contents m) o.id).size) (flat_map (contents m) (places_at o.sizes (contents m) o.id)) (size_long o m kind whole))

pub page_room : (o : Origin) (m : ℕ → Option (List ℕ)) (long : ℕ) (kind : KeyKind) → IsReadable o long m → IsWholeTree kind (stream_of o m) → 1024 ≤ o.sizes.block_size * length (places_at o.sizes (contents m) o.id)
page_room o m long kind r whole = let high = r.stands.sound.size_high in let low = size_long o m kind whole in omega (arith, high, low)
