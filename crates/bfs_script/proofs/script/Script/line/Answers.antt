use Rattle.std.proofs.Common.{rules, ◌≡◌, ◌<◌, ℕ, List, length, get_or, ap, sym, ◌∙◌, subst}
use Rattle.std.specs.List.{slice_get}
use Rattle.bfs_command.specs.declared.line.Line.{Line}
use Rattle.bfs_script.specs.declared.script.Place.{Place}
use Rattle.bfs_script.specs.Places.{line_at, lines_at, IsPlace}
use Rattle.bfs_script.proofs.Placed.{line_count, places_are_ones, one_at}
use Rattle.bfs_script.proofs.script.Script.line.Goals as goal

pub index-place-requires : goal.index-place-requires
index-place-requires c =
    let bytes = c.self.inside.bytes.items in
    let places = c.self.inside.places.items in
    let view : lines_at bytes places ≡ c.args.self.now = search rules in
    let lines : length c.args.self.now ≡ length places = ap length (sym view) ∙ line_count bytes places c.self.invariant in
    let inside : c.args.at < length places = subst (λ (n : ℕ). c.args.at < n) lines c.requires in
    search rules

pub read_at-requires : goal.read_at-requires
read_at-requires c =
    let bytes = c.self.inside.bytes.items in
    let places = c.self.inside.places.items in
    let view : lines_at bytes places ≡ c.args.self.now = search rules in
    let lines : length c.args.self.now ≡ length places = ap length (sym view) ∙ line_count bytes places c.self.invariant in
    let inside : c.args.at < length places = subst (λ (n : ℕ). c.args.at < n) lines c.requires in
    let place = c.index-place.result.now in
    let item : place ≡ get_or places c.args.at place = search rules in
    let value : c.deref.result.now ≡ bytes = search rules in
    subst (λ (l : List ℕ). IsPlace l place) (sym value) (subst (λ (p : Place). IsPlace bytes p) (sym item) (c.self.invariant c.args.at place inside))

pub returns-in-Ok : goal.returns-in-Ok
returns-in-Ok c =
    let bytes = c.self.inside.bytes.items in
    let places = c.self.inside.places.items in
    let view : lines_at bytes places ≡ c.args.self.now = search rules in
    let lines : length c.args.self.now ≡ length places = ap length (sym view) ∙ line_count bytes places c.self.invariant in
    let inside : c.args.at < length places = subst (λ (n : ℕ). c.args.at < n) lines c.requires in
    let place = c.index-place.result.now in
    let item : place ≡ get_or places c.args.at place = search rules in
    let value : c.deref.result.now ≡ bytes = search rules in
    ap (λ (ls : List Line). slice_get ls c.args.at) (sym view)
    ∙ one_at (line_at bytes) places c.args.at place c.in-Ok.line (places_are_ones bytes places c.self.invariant) inside (ap (line_at bytes) (sym item) ∙ ap (λ (l : List ℕ). line_at l place) (sym value) ∙ c.in-Ok.ensures)
