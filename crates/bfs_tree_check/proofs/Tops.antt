-- What is wrong with the header of a tree.
use Rattle.std.proofs.Common.{◌≡◌, ◌≤◌, ℕ, ℤ, zero, suc, List, [], ◌∷◌, length, Option, Some, None, IfSome, inl, inr, refl, sym, ap, ◌∙◌, subst, arith}
use Rattle.bfs_bytes.specs.Fields.{unsigned_at}
use Rattle.bfs_base.specs.Keys.{IsTreeKind}
use Rattle.bfs_base.specs.declared.kind.KeyKind.{KeyKind}
use Rattle.bfs_base.specs.declared.kind.KeyKind.TheVariants.{Text, I32, U32, I64, U64, F32, F64}
use Rattle.bfs_node.specs.Header.{code_of, header_at, HasMagic}
use Rattle.bfs_node.specs.declared.header.Header.{Header}
use Rattle.bfs_txn.specs.Pages.{IsPageAt}
use Rattle.bfs_pages.specs.Answers.{IsChild, IsLink}
use Rattle.bfs_pages.specs.Trees.{header_in, place_of}
use Rattle.bfs_finding.specs.TreeFaults.{IsLinkFault, no_page, to_top, to_free, wanted_link}

pub low_code : (kind : KeyKind) → IsTreeKind kind → code_of kind ≤ 4
low_code Text t = omega arith
low_code I32 t = omega arith
low_code U32 t = omega arith
low_code I64 t = omega arith
low_code U64 t = omega arith
low_code F32 t = absurd t
low_code F64 t = absurd t

pub none_if : (n : ℕ) → ¬ (1 ≤ n) → n ≡ 0
none_if zero f = refl
none_if (suc n) f = absurd (f (omega arith))

-- a stream without bytes has no header
pub no_bytes : (b : List ℕ) → length b ≡ 0 → ¬ HasMagic (header_in b)
unfolding unsigned_at
no_bytes [] e m = omega (arith, m)
no_bytes (x ∷ xs) e m = omega (arith, e)

pub root_wrong : (kind : KeyKind) (b : List ℕ) (size : ℕ) (link : ℤ) → link ≡ (header_in b).root_pointer → size ≡ length b → ¬ IsChild size (place_of link) → IsLinkFault kind b 0 link (wanted_link link)
root_wrong kind b size link is long other = no_page (place_of link) (to_top refl is refl) (λ c. other (subst (λ n. IsChild n (place_of link)) (sym long) c)) refl

pub free_wrong : (kind : KeyKind) (b : List ℕ) (size : ℕ) (link : ℤ) → link ≡ (header_in b).free_pointer → size ≡ length b → ¬ IsLink size (place_of link) → IsLinkFault kind b 0 link (wanted_link link)
free_wrong kind b size link is long other =
    no_page (place_of link) (to_free refl is (λ e. other (inl (ap place_of e))) refl) (λ c. other (inr (subst (λ n. IsChild n (place_of link)) (sym long) c))) refl

-- the header that was read is the one told
pub header_read : (told : Option (List ℕ)) (page : List ℕ) (h : Header) → IsPageAt told 0 page → h ≡ header_at page → IfSome told (λ b. h ≡ header_in b)
header_read None page h read is = tt
header_read (Some b) page h read is = is ∙ ap header_at read
