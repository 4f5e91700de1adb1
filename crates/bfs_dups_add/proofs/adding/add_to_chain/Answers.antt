use Rattle.std.proofs.Common.{◌≡◌, ◌≢◌, ◌≤◌, ◌<◌, ◌++◌, ℕ, List, IfSome, ap, sym, ◌∙◌, arith, rules, w64, to_z, of_z, subst}
use Rattle.bfs_base.specs.Lists.{times}
use Rattle.bfs_pages.specs.Answers.{IsChild}
use Rattle.bfs_pages.specs.Trees.{page_in}
use Rattle.bfs_pages.proofs.OfKind.{if_some}
use Rattle.bfs_values.specs.declared.link.Link.TheVariants.{Chain}
use Rattle.bfs_values.specs.Links.{link_in}
use Rattle.bfs_values.specs.Values.{IsDuplicates, page_count, page_numbers, numbers_of_pages, numbers_in, placed, values_in}
use Rattle.bfs_dups_add.specs.Rooms.{IsRoom}
use Rattle.bfs_values.specs.Stored.{with_number}
use Rattle.bfs_dups_add.specs.declared.scan.Room.{Room}
use Rattle.bfs_dups.proofs.Answered.{match-none, match-some, revalued, linked-open, chain-facts, chain-times, linked-numbers}
use Rattle.bfs_dups_add.proofs.Answered.{with-new, unchanged, room-there}
use Rattle.bfs_dups_add.proofs.Causes.{pages-scant}
use Rattle.bfs_dups.proofs.Composed.{told-whole, told-some, linked-row, first-small}
use Rattle.bfs_dups_add.proofs.Lengthened.{widened, extended}
use Rattle.bfs_dups_add.proofs.Forms.{formed-chain}
use Rattle.bfs_values.specs.Chained.{IsLinked}
use Rattle.bfs_dups_add.proofs.adding.add_to_chain.Goals as goal

pub returns-in-Ok-None-clause-added : goal.returns-in-Ok-None-clause-added
returns-in-Ok-None-clause-added g c b t front back key e s =
    let w = told-whole (g.P.Pages.told c.args.pages.now) (g.P.Pages.size c.args.pages.now) b (g.met.P.Pages.sized c.args.pages.now) (g.met.P.Pages.whole c.args.pages.now) e in
    let signed : to_z w64 (of_z w64 c.args.value) ≡ c.args.value = search rules in
    let o = linked-open c.args.kind b t front key back c.args.value (Chain c.args.first) s c.requires.link in
    let f = chain-facts b c.args.first w o.mine in
    let m = match-none (1 ≤ times c.args.number (numbers_of_pages b f.pages)) (λ (room : Room). (times c.args.number (numbers_of_pages b f.pages) ≡ 0) × IsRoom b f.pages room) c.in-Ok-None.field-0 (c.in-Ok-None.ensures.found b f.pages e f.chain f.good) c.in-Ok-None.field-0-is in
    (b, c.in-Ok-None.ensures.told ∙ e, unchanged c.args.kind b t front key back c.args.value (to_z w64 (of_z w64 c.args.value)) c.args.number s signed (omega (arith, m, chain-times b c.args.first c.args.number c.args.value f c.requires.link)))

pub returns-in-Ok-clause-added : goal.returns-in-Ok-clause-added
returns-in-Ok-clause-added g c b t front back key e s =
    let w = told-whole (g.P.Pages.told c.args.pages.now) (g.P.Pages.size c.args.pages.now) b (g.met.P.Pages.sized c.args.pages.now) (g.met.P.Pages.whole c.args.pages.now) e in
    let signed : to_z w64 (of_z w64 c.args.value) ≡ c.args.value = search rules in
    let o = linked-open c.args.kind b t front key back c.args.value (Chain c.args.first) s c.requires.link in
    let f = chain-facts b c.args.first w o.mine in
    let m = match-some (1 ≤ times c.args.number (numbers_of_pages b f.pages)) (λ (room : Room). (times c.args.number (numbers_of_pages b f.pages) ≡ 0) × IsRoom b f.pages room) c.in-Ok-Some.field-0 c.in-Ok-Some.room (c.in-Ok-Some.ensures.found b f.pages e f.chain f.good) c.in-Ok-Some.field-0-is in
    let r : c.scan_chain.new.last ≡ page_in b c.in-Ok-Some.room.last =
    if_some (λ (b : List ℕ). c.scan_chain.new.last ≡ page_in b c.in-Ok-Some.room.last) (g.P.Pages.told c.args.pages.now) b
    (if_some (λ (room : Room). IsChild (g.P.Pages.size c.args.pages.now) room.last × IsDuplicates c.scan_chain.new.last × IfSome (g.P.Pages.told c.args.pages.now) (λ b. c.scan_chain.new.last ≡ page_in b room.last)) c.in-Ok-Some.field-0 c.in-Ok-Some.room c.in-Ok-Some.ensures.last c.in-Ok-Some.field-0-is).2 e in
    let x = c.in-Ok.ensures.extended b (c.in-Ok-Some.ensures.told ∙ e) r in
    let done = extended c.args.kind b x.0 t (front ++ back) c.args.first c.in-Ok-Some.room.last x.2 c.args.number f.pages o w f.is f.chain m.1.last m.1.ends m.0 x.3 in (
      x.0,
      x.1,
      revalued c.args.kind b x.0 t front key back (to_z w64 (of_z w64 c.args.value)) (Chain c.args.first) (placed c.args.number (numbers_in b (Chain c.args.first))) (with_number c.args.number (values_in b c.args.value)) (ap link_in signed ∙ c.requires.link) done.0 done.1 done.2
          (ap (λ l. placed c.args.number (numbers_in b l)) (sym c.requires.link) ∙ sym (with-new c.args.number (values_in b c.args.value) (chain-times b c.args.first c.args.number c.args.value f c.requires.link ∙ m.0))),
    )

pub returns-in-Ok-clause-there : goal.returns-in-Ok-clause-there
returns-in-Ok-clause-there g c b e h i =
    let w = told-whole (g.P.Pages.told c.args.pages.now) (g.P.Pages.size c.args.pages.now) b (g.met.P.Pages.sized c.args.pages.now) (g.met.P.Pages.whole c.args.pages.now) e in
    let f = chain-facts b c.args.first w (linked-numbers b c.args.value (Chain c.args.first) c.requires.link h) in
    let m = match-some (1 ≤ times c.args.number (numbers_of_pages b f.pages)) (λ (room : Room). (times c.args.number (numbers_of_pages b f.pages) ≡ 0) × IsRoom b f.pages room) c.in-Ok-Some.field-0 c.in-Ok-Some.room (c.in-Ok-Some.ensures.found b f.pages e f.chain f.good) c.in-Ok-Some.field-0-is in
    absurd (omega (arith, m.0, i, chain-times b c.args.first c.args.number c.args.value f c.requires.link))

pub returns-in-Err-extend-clause-added : goal.returns-in-Err-extend-clause-added
returns-in-Err-extend-clause-added g c b t front back key e s = c.in-Err-extend.ensures.spared b s.reached t s.free (c.in-Ok-Some.ensures.told ∙ e) s.tree

pub returns-in-Ok-widen-clause-added : goal.returns-in-Ok-widen-clause-added
returns-in-Ok-widen-clause-added g c b t front back key e s =
    let w = told-whole (g.P.Pages.told c.args.pages.now) (g.P.Pages.size c.args.pages.now) b (g.met.P.Pages.sized c.args.pages.now) (g.met.P.Pages.whole c.args.pages.now) e in
    let signed : to_z w64 (of_z w64 c.args.value) ≡ c.args.value = search rules in
    let o = linked-open c.args.kind b t front key back c.args.value (Chain c.args.first) s c.requires.link in
    let f = chain-facts b c.args.first w o.mine in
    let m = match-some (1 ≤ times c.args.number (numbers_of_pages b f.pages)) (λ (room : Room). (times c.args.number (numbers_of_pages b f.pages) ≡ 0) × IsRoom b f.pages room) c.in-Ok-Some.field-0 c.in-Ok-Some.room (c.in-Ok-Some.ensures.found b f.pages e f.chain f.good) c.in-Ok-Some.field-0-is in
    let r : c.scan_chain.new.roomy ≡ page_in b c.in-Ok-Some.room.at =
    if_some (λ (b : List ℕ). c.scan_chain.new.roomy ≡ page_in b c.in-Ok-Some.room.at) (g.P.Pages.told c.args.pages.now) b
    (if_some (λ (room : Room). room.at ≢ 0 → IsChild (g.P.Pages.size c.args.pages.now) room.at × IsDuplicates c.scan_chain.new.roomy × (page_count c.scan_chain.new.roomy < 125) × (times c.args.number (page_numbers c.scan_chain.new.roomy) ≡ 0) × IfSome (g.P.Pages.told c.args.pages.now) (λ b. c.scan_chain.new.roomy ≡ page_in b room.at)) c.in-Ok-Some.field-0 c.in-Ok-Some.room c.in-Ok-Some.ensures.roomy c.in-Ok-Some.field-0-is c.if-room-eq0.false).4 e in
    let x = c.in-Ok-widen.ensures.widened b (c.in-Ok-Some.ensures.told ∙ e) r in
    let done = widened c.args.kind b x.0 t (front ++ back) c.args.first c.in-Ok-Some.room.at c.args.number f.pages o w f.is f.chain (room-there b f.pages c.in-Ok-Some.room m.1 c.if-room-eq0.false) m.0 x.2 in (
      x.0,
      x.1,
      revalued c.args.kind b x.0 t front key back (to_z w64 (of_z w64 c.args.value)) (Chain c.args.first) (placed c.args.number (numbers_in b (Chain c.args.first))) (with_number c.args.number (values_in b c.args.value)) (ap link_in signed ∙ c.requires.link) done.0 done.1 done.2
          (ap (λ l. placed c.args.number (numbers_in b l)) (sym c.requires.link) ∙ sym (with-new c.args.number (values_in b c.args.value) (chain-times b c.args.first c.args.number c.args.value f c.requires.link ∙ m.0))),
    )

pub returns-in-Ok-widen-clause-there : goal.returns-in-Ok-widen-clause-there
returns-in-Ok-widen-clause-there g c b e h i =
    let w = told-whole (g.P.Pages.told c.args.pages.now) (g.P.Pages.size c.args.pages.now) b (g.met.P.Pages.sized c.args.pages.now) (g.met.P.Pages.whole c.args.pages.now) e in
    let f = chain-facts b c.args.first w (linked-numbers b c.args.value (Chain c.args.first) c.requires.link h) in
    let m = match-some (1 ≤ times c.args.number (numbers_of_pages b f.pages)) (λ (room : Room). (times c.args.number (numbers_of_pages b f.pages) ≡ 0) × IsRoom b f.pages room) c.in-Ok-Some.field-0 c.in-Ok-Some.room (c.in-Ok-Some.ensures.found b f.pages e f.chain f.good) c.in-Ok-Some.field-0-is in
    absurd (omega (arith, m.0, i, chain-times b c.args.first c.args.number c.args.value f c.requires.link))

pub returns-in-Err-clause-added : goal.returns-in-Err-clause-added
returns-in-Err-clause-added g c b t front back key e s =
    let w = told-whole (g.P.Pages.told c.args.pages.now) (g.P.Pages.size c.args.pages.now) b (g.met.P.Pages.sized c.args.pages.now) (g.met.P.Pages.whole c.args.pages.now) e in
    let o = linked-open c.args.kind b t front key back c.args.value (Chain c.args.first) s c.requires.link in
    let f = chain-facts b c.args.first w o.mine in
    pages-scant (g.P.Pages.told c.scan_chain.new.pages) c.in-Err.fault (c.in-Err.ensures.found b f.pages e f.chain f.good)

pub returns-in-Ok-None-clause-formed : goal.returns-in-Ok-None-clause-formed
returns-in-Ok-None-clause-formed g c b e f =
    let signed : to_z w64 (of_z w64 c.args.value) ≡ c.args.value = search rules in
    formed-chain c.args.value (to_z w64 (of_z w64 c.args.value)) c.args.number c.args.first (values_in b c.args.value) c.requires.link signed f

pub returns-in-Ok-clause-formed : goal.returns-in-Ok-clause-formed
returns-in-Ok-clause-formed g c b e f =
    let signed : to_z w64 (of_z w64 c.args.value) ≡ c.args.value = search rules in
    formed-chain c.args.value (to_z w64 (of_z w64 c.args.value)) c.args.number c.args.first (values_in b c.args.value) c.requires.link signed f

pub returns-in-Ok-widen-clause-formed : goal.returns-in-Ok-widen-clause-formed
returns-in-Ok-widen-clause-formed g c b e f =
    let signed : to_z w64 (of_z w64 c.args.value) ≡ c.args.value = search rules in
    formed-chain c.args.value (to_z w64 (of_z w64 c.args.value)) c.args.number c.args.first (values_in b c.args.value) c.requires.link signed f

pub returns-in-Ok-None-clause-linked : goal.returns-in-Ok-None-clause-linked
returns-in-Ok-None-clause-linked g c b t front back key e s k =
    let signed : to_z w64 (of_z w64 c.args.value) ≡ c.args.value = search rules in
    told-some (λ (d : List ℕ). IsLinked d (link_in (to_z w64 (of_z w64 c.args.value)))) (g.P.Pages.told c.scan_chain.new.pages) b (c.in-Ok-None.ensures.told ∙ e) (linked-row b (to_z w64 (of_z w64 c.args.value)) c.args.value (Chain c.args.first) signed c.requires.link (subst (IsLinked b) c.requires.link k))

pub returns-in-Ok-clause-linked : goal.returns-in-Ok-clause-linked
returns-in-Ok-clause-linked g c b t front back key e s k =
    let w = told-whole (g.P.Pages.told c.args.pages.now) (g.P.Pages.size c.args.pages.now) b (g.met.P.Pages.sized c.args.pages.now) (g.met.P.Pages.whole c.args.pages.now) e in
    let signed : to_z w64 (of_z w64 c.args.value) ≡ c.args.value = search rules in
    let o = linked-open c.args.kind b t front key back c.args.value (Chain c.args.first) s c.requires.link in
    let f = chain-facts b c.args.first w o.mine in
    let m = match-some (1 ≤ times c.args.number (numbers_of_pages b f.pages)) (λ (room : Room). (times c.args.number (numbers_of_pages b f.pages) ≡ 0) × IsRoom b f.pages room) c.in-Ok-Some.field-0 c.in-Ok-Some.room (c.in-Ok-Some.ensures.found b f.pages e f.chain f.good) c.in-Ok-Some.field-0-is in
    let r : c.scan_chain.new.last ≡ page_in b c.in-Ok-Some.room.last =
    if_some (λ (b : List ℕ). c.scan_chain.new.last ≡ page_in b c.in-Ok-Some.room.last) (g.P.Pages.told c.args.pages.now) b
    (if_some (λ (room : Room). IsChild (g.P.Pages.size c.args.pages.now) room.last × IsDuplicates c.scan_chain.new.last × IfSome (g.P.Pages.told c.args.pages.now) (λ b. c.scan_chain.new.last ≡ page_in b room.last)) c.in-Ok-Some.field-0 c.in-Ok-Some.room c.in-Ok-Some.ensures.last c.in-Ok-Some.field-0-is).2 e in
    let x = c.in-Ok.ensures.extended b (c.in-Ok-Some.ensures.told ∙ e) r in
    let done = extended c.args.kind b x.0 t (front ++ back) c.args.first c.in-Ok-Some.room.last x.2 c.args.number f.pages o w f.is f.chain m.1.last m.1.ends m.0 x.3 in
    told-some (λ (d : List ℕ). IsLinked d (link_in (to_z w64 (of_z w64 c.args.value)))) (g.P.Pages.told c.extend.new.pages) x.0 x.1 (linked-row x.0 (to_z w64 (of_z w64 c.args.value)) c.args.value (Chain c.args.first) signed c.requires.link (done.3 (first-small c.args.value c.args.first c.requires.link) (subst (IsLinked b) c.requires.link k)))

pub returns-in-Ok-widen-clause-linked : goal.returns-in-Ok-widen-clause-linked
returns-in-Ok-widen-clause-linked g c b t front back key e s k =
    let w = told-whole (g.P.Pages.told c.args.pages.now) (g.P.Pages.size c.args.pages.now) b (g.met.P.Pages.sized c.args.pages.now) (g.met.P.Pages.whole c.args.pages.now) e in
    let signed : to_z w64 (of_z w64 c.args.value) ≡ c.args.value = search rules in
    let o = linked-open c.args.kind b t front key back c.args.value (Chain c.args.first) s c.requires.link in
    let f = chain-facts b c.args.first w o.mine in
    let m = match-some (1 ≤ times c.args.number (numbers_of_pages b f.pages)) (λ (room : Room). (times c.args.number (numbers_of_pages b f.pages) ≡ 0) × IsRoom b f.pages room) c.in-Ok-Some.field-0 c.in-Ok-Some.room (c.in-Ok-Some.ensures.found b f.pages e f.chain f.good) c.in-Ok-Some.field-0-is in
    let r : c.scan_chain.new.roomy ≡ page_in b c.in-Ok-Some.room.at =
    if_some (λ (b : List ℕ). c.scan_chain.new.roomy ≡ page_in b c.in-Ok-Some.room.at) (g.P.Pages.told c.args.pages.now) b
    (if_some (λ (room : Room). room.at ≢ 0 → IsChild (g.P.Pages.size c.args.pages.now) room.at × IsDuplicates c.scan_chain.new.roomy × (page_count c.scan_chain.new.roomy < 125) × (times c.args.number (page_numbers c.scan_chain.new.roomy) ≡ 0) × IfSome (g.P.Pages.told c.args.pages.now) (λ b. c.scan_chain.new.roomy ≡ page_in b room.at)) c.in-Ok-Some.field-0 c.in-Ok-Some.room c.in-Ok-Some.ensures.roomy c.in-Ok-Some.field-0-is c.if-room-eq0.false).4 e in
    let x = c.in-Ok-widen.ensures.widened b (c.in-Ok-Some.ensures.told ∙ e) r in
    let done = widened c.args.kind b x.0 t (front ++ back) c.args.first c.in-Ok-Some.room.at c.args.number f.pages o w f.is f.chain (room-there b f.pages c.in-Ok-Some.room m.1 c.if-room-eq0.false) m.0 x.2 in
    told-some (λ (d : List ℕ). IsLinked d (link_in (to_z w64 (of_z w64 c.args.value)))) (g.P.Pages.told c.widen.new.pages) x.0 x.1 (linked-row x.0 (to_z w64 (of_z w64 c.args.value)) c.args.value (Chain c.args.first) signed c.requires.link (done.3 (subst (IsLinked b) c.requires.link k)))
