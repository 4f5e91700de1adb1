use Rattle.std.proofs.Common.{◌≡◌, ◌+◌, ◌++◌, ◌∷◌, [], ℕ, List, Option, Some, true, drop, get_or, arith, rules, ap, sym, ◌∙◌}
use Rattle.bfs_text.specs.Words.{hex_bytes, byte_of, put_first, before}
use Rattle.bfs_text.proofs.Unescaping.{before_put, hex_short, hex_pair}
use Rattle.bfs_text.proofs.escapes.put_pair.Goals as goal

pub returns-then-word-at-lt2 : goal.returns-then-word-at-lt2
returns-then-word-at-lt2 c = hex_short c.args.word.now c.args.at c.requires c.if-word-at-lt2.true

pub returns : goal.returns
returns c =
    let word = c.args.word.now in
    let at = c.args.at in
    let more = hex_bytes (drop (at + 2) word) in
    let items : c.push.new.self.items ≡ c.args.bytes.now.items ++ c.in-Some.byte ∷ [] = search rules in
    let byte : byte_of true (get_or word at 0) (get_or word (at + 1) 0) ≡ Some c.in-Some.byte = search rules in (
      omega arith,
      omega (arith, c.if-word-at-lt2.false),
      ap (before c.args.bytes.now.items) (hex_pair word at c.requires c.if-word-at-lt2.false ∙ ap (λ (b : Option ℕ). put_first b more) byte)
          ∙ before_put c.args.bytes.now.items c.in-Some.byte more ∙ ap (λ (l : List ℕ). before l more) (sym items),
    )
