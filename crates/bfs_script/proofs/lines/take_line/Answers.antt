use Rattle.std.proofs.Common.{rules, ◌≡◌, ◌++◌, ◌∷◌, [], ℕ, List, Bool, Option, Some, None, if◌then◌else◌, ap, sym, ◌∙◌, subst}
use Rattle.std.specs.List.{All}
use Rattle.bfs_command.specs.declared.command.Command.{Command}
use Rattle.bfs_command.specs.declared.spoken.LineKind.TheVariants as kinds
use Rattle.bfs_command.specs.Grammar.{said, line_kind}
use Rattle.bfs_script.specs.declared.script.Place.{Place}
use Rattle.bfs_script.specs.Scripts.{said_on, line_too_far}
use Rattle.bfs_script.specs.Places.{between, lines_at, IsPlace}
use Rattle.bfs_script.proofs.Placed.{command_is, blank_is, bad_is, said_behind}
use Rattle.bfs_script.proofs.Limits.{silent_is_bad, said_is_good, place_more}
use Rattle.bfs_script.proofs.lines.take_line.Goals as goal

pub returns-in-Blank-clause-good : goal.returns-in-Blank-clause-good
returns-in-Blank-clause-good c =
    let bytes = c.args.bytes.now in
    let kind : line_kind (said (between c.args.start c.args.end bytes)) ≡ kinds.Blank = search rules in
    said_is_good (line_too_far bytes) c.args.number bytes c.args.start c.args.end c.requires.end None (sym c.is_over.ensures.over ∙ c.if-is_over.false) (blank_is (said (between c.args.start c.args.end bytes)) kind)

pub returns-in-Blank-clause-said : goal.returns-in-Blank-clause-said
returns-in-Blank-clause-said c = λ more.
    let bytes = c.args.bytes.now in
    let kind : line_kind (said (between c.args.start c.args.end bytes)) ≡ kinds.Blank = search rules in
    ap (λ (o : Option (Option (ℕ × Command))). lines_at bytes c.args.places.now.items ++ said_on c.args.number o more) (blank_is (said (between c.args.start c.args.end bytes)) kind)

pub returns-in-Bad-clause-fault : goal.returns-in-Bad-clause-fault
returns-in-Bad-clause-fault c =
    let bytes = c.args.bytes.now in
    let kind : line_kind (said (between c.args.start c.args.end bytes)) ≡ kinds.Bad = search rules in
    ap (λ (t : Bool). if t then Some c.args.number else None) (silent_is_bad (line_too_far bytes) c.args.number bytes c.args.start c.args.end c.requires.end (bad_is (said (between c.args.start c.args.end bytes)) kind))

pub returns-in-Ok-clause-good : goal.returns-in-Ok-clause-good
returns-in-Ok-clause-good c =
    let bytes = c.args.bytes.now in
    let kind : line_kind (said (between c.args.start c.args.end bytes)) ≡ kinds.Command = search rules in
    let x = command_is (between c.args.start c.args.end bytes) kind in
    said_is_good (line_too_far bytes) c.args.number bytes c.args.start c.args.end c.requires.end (Some x.0) (sym c.is_over.ensures.over ∙ c.if-is_over.false) x.1

pub returns-in-Ok-clause-said : goal.returns-in-Ok-clause-said
returns-in-Ok-clause-said c = λ more.
    let bytes = c.args.bytes.now in
    let kind : line_kind (said (between c.args.start c.args.end bytes)) ≡ kinds.Command = search rules in
    let x = command_is (between c.args.start c.args.end bytes) kind in
    let place : Place = record { number = c.args.number; start = c.args.start; end = c.args.end } in
    let items : c.push_place.new.places.items ≡ c.args.places.now.items ++ place ∷ [] = search rules in
    said_behind bytes c.args.places.now.items place more (Some x.0) x.1 ∙ ap (λ (ps : List Place). lines_at bytes ps ++ more) (sym items)

pub returns-in-Ok-clause-places : goal.returns-in-Ok-clause-places
returns-in-Ok-clause-places c = λ all.
    let bytes = c.args.bytes.now in
    let kind : line_kind (said (between c.args.start c.args.end bytes)) ≡ kinds.Command = search rules in
    let place : Place = record { number = c.args.number; start = c.args.start; end = c.args.end } in
    let items : c.push_place.new.places.items ≡ c.args.places.now.items ++ place ∷ [] = search rules in
    subst (λ (ps : List Place). All (IsPlace bytes) ps) (sym items) (place_more (line_too_far bytes) c.args.number bytes c.args.start c.args.end c.requires.end c.args.places.now.items kind all)
