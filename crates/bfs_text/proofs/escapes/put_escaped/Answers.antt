use Rattle.std.proofs.Common.{◌≡◌, ◌+◌, ◌==◌, ◌++◌, ◌∷◌, [], ℕ, List, Option, Some, true, false, drop, get_or, arith, rules, ap, sym, ◌∙◌}
use Rattle.bfs_text.specs.Words.{unescaped, byte_of, put_first, before}
use Rattle.bfs_text.proofs.Unescaping.{before_put, plain, short, pair}
use Rattle.bfs_text.proofs.escapes.put_escaped.Goals as goal

pub returns-then-word-at-ne37 : goal.returns-then-word-at-ne37
returns-then-word-at-ne37 c =
    let word = c.args.word.now in
    let at = c.args.at in
    let test : (get_or word at 0 == 37) ≡ false = search rules in
    let more = unescaped (drop (at + 1) word) in
    let items : c.push.new.self.items ≡ c.args.bytes.now.items ++ get_or word at 0 ∷ [] = search rules in (
      omega arith,
      omega (arith, c.requires),
      ap (before c.args.bytes.now.items) (plain word at c.requires test) ∙ before_put c.args.bytes.now.items (get_or word at 0) more ∙ ap (λ (l : List ℕ). before l more) (sym items),
    )

pub returns-then-word-at-lt3 : goal.returns-then-word-at-lt3
returns-then-word-at-lt3 c =
    let test : (get_or c.args.word.now c.args.at 0 == 37) ≡ true = search rules in
    short c.args.word.now c.args.at c.requires test c.if-word-at-lt3.true

pub returns : goal.returns
returns c =
    let word = c.args.word.now in
    let at = c.args.at in
    let test : (get_or word at 0 == 37) ≡ true = search rules in
    let more = unescaped (drop (at + 3) word) in
    let items : c.push-2.new.self.items ≡ c.args.bytes.now.items ++ c.in-Some.byte ∷ [] = search rules in
    let byte : byte_of false (get_or word (at + 1) 0) (get_or word (at + 2) 0) ≡ Some c.in-Some.byte = search rules in (
      omega arith,
      omega (arith, c.if-word-at-lt3.false),
      ap (before c.args.bytes.now.items) (pair word at c.requires test c.if-word-at-lt3.false ∙ ap (λ (b : Option ℕ). put_first b more) byte)
          ∙ before_put c.args.bytes.now.items c.in-Some.byte more ∙ ap (λ (l : List ℕ). before l more) (sym items),
    )
