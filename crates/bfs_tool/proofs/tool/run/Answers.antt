use Rattle.std.proofs.Common.{ℕ, List, [], inl, inr, ⊎_elim, subst, sym, refl, ◌∙◌, ◌≡◌, ◌⊎◌, rules}
use Rattle.std.specs.Prelude.{IfOk}
use Rattle.bfs_disk.specs.State.{IsQuiet, ReadsAs, Tells, Holds}
use Rattle.bfs_tool.specs.Label.{labelled}
use Rattle.bfs_tool.specs.Tool.{Prints, usage_text}
use Rattle.bfs_tool.specs.Make.{IsNewVolume, MakesBy, IsMade, making_status, making_text}
use Rattle.bfs_tool.specs.declared.make.Making.{Making}
use Rattle.bfs_ports.specs.Ports.{appended}
use Rattle.bfs_words.proofs.Callers.{one_name, one_volume, no_label, no_check_label, no_check_make, no_words_label, no_words_make, no_words_check}
use Rattle.bfs_words.specs.Words.{Asks, IsFaulty, IsLabelCommand, IsMakeCommand, IsCheckCommand}
use Rattle.bfs_tool.proofs.Checks.{at_seven}
use Rattle.bfs_tool.proofs.Commands.{label_seven, label_ten, making_silent, none_of, no_words_run, refused_of, two_zero, usage_of, zero_six, same_count, seven_zero, seven_two, seven_four, seven_five, seven_six}
use Rattle.bfs_tool.proofs.Held.{held_image}
use Rattle.bfs_tool.proofs.Pieces.{appended_none}
use Rattle.bfs_tool.proofs.Shells.{read_otherwise}
use Rattle.bfs_tool.proofs.tool.run.Goals as goal

pub returns-then-is_empty : goal.returns-then-is_empty
returns-then-is_empty g c =
    let words = c.args.words.now in
    let none : words ≡ [] = none_of words c.is_empty.result c.is_empty.ensures c.if-is_empty.true in
    let r = c.report.ensures in
    let status = usage_of c.report.result (⊎_elim (λ a. inl a) (λ b. inr b.1) r.status) in
    let text : c.as_bytes.result.now ≡ usage_text = c.as_bytes.ensures.value in
    record {
      usage = λ is. status.ended;
      faulty = λ two. absurd (status.two two);
      refused_words = λ faulty. absurd (faulty.some none);
      texts = λ either. subst (Prints (g.W.Sink.written c.args.out.now) (g.W.Sink.written c.report.new.out) (g.W.Sink.faults c.args.out.now) (g.W.Sink.faults c.report.new.out)) text r.printed;
      whole = λ is ok. subst (λ t. g.W.Sink.written c.report.new.out ≡ appended (g.W.Sink.written c.args.out.now) t) text (r.whole ok);
      idle = λ either. refl;
      silent = λ seven. absurd (status.seven seven);
      label = λ name is. absurd (no_words_label words name none is);
      make = λ blocks size label is. absurd (no_words_make words blocks size label none is);
      check = λ is. absurd (no_words_check words none is);
      runs = λ asked. absurd (no_words_run words none asked);
      refused = λ refused. refl;
      replayed = λ quiet image is reads done. absurd (no_words_check words none is);
      unfinished = λ quiet image is reads seven. absurd (no_words_check words none is);
      labelled = λ name image is held ok. absurd (no_words_label words name none is);
      made = λ blocks size label image is held done. absurd (no_words_make words blocks size label none is);
      moments = λ image held i left. inl (held_image _ image i held (g.met.D.Disk.only_now c.args.disk.now i left));
      disk_failed = λ four. absurd (status.four four);
      script_whole = status.five;
      output_failed = λ six. ⊎_elim (λ a. absurd (zero_six c.report.result a six)) (λ b. b.2) r.status;
      disk_later = same_count _;
      clock_later = same_count _;
      output_later = r.later;
    }

pub returns-in_default : goal.returns-in_default
returns-in_default g c =
    let words = c.args.words.now in
    let some : ¬ (words ≡ []) = search rules in
    record {
      usage = λ none. absurd (some none);
      faulty = λ two. absurd (seven_two two);
      refused_words = λ faulty. inr refl;
      texts = λ either. absurd (⊎_elim some seven_two either);
      whole = λ none ok. absurd (some none);
      idle = λ either. refl;
      silent = λ seven. appended_none _;
      label = λ name is. inl refl;
      make = λ blocks size label is. inl refl;
      check = λ is. inl refl;
      runs = λ asked. (refl, refl);
      refused = λ refused. refl;
      replayed = λ quiet image is reads done. absurd (at_seven 7 done refl);
      unfinished = λ quiet image is reads seven. inl refl;
      labelled = λ name image is held ok. absurd (seven_zero ok);
      made = λ blocks size label image is held done. absurd (⊎_elim seven_zero seven_six done);
      moments = λ image held i left. inl (held_image _ image i held (g.met.D.Disk.only_now c.args.disk.now i left));
      disk_failed = λ four. absurd (seven_four four);
      script_whole = seven_five;
      output_failed = λ six. absurd (seven_six six);
      disk_later = same_count _;
      clock_later = same_count _;
      output_later = same_count _;
    }

pub returns-in-Faulty : goal.returns-in-Faulty
returns-in-Faulty g c =
    let words = c.args.words.now in
    let faulty : IsFaulty words = subst (Asks words) c.in-Faulty.is (subst (λ r. IfOk r (Asks words)) c.in-Ok.is c.requires.asks) in
    let r = c.report-in-Faulty.ensures in
    let status = refused_of c.report-in-Faulty.result (⊎_elim (λ a. a) (λ b. absurd (two_zero b.0)) r.status) in
    let text : c.as_bytes-in-Faulty.result.now ≡ usage_text = c.as_bytes-in-Faulty.ensures.value in
    record {
      usage = λ none. absurd (faulty.some none);
      faulty = λ two. faulty;
      refused_words = λ is. inl status.two;
      texts = λ either. subst (Prints (g.W.Sink.written c.args.out.now) (g.W.Sink.written c.report-in-Faulty.new.out) (g.W.Sink.faults c.args.out.now) (g.W.Sink.faults c.report-in-Faulty.new.out)) text r.printed;
      whole = λ none ok. absurd (faulty.some none);
      idle = λ either. refl;
      silent = λ seven. absurd (status.seven seven);
      label = λ name is. absurd (faulty.no_label name is);
      make = λ blocks size label is. absurd (faulty.no_volume blocks size label is);
      check = λ is. absurd (faulty.no_check is);
      runs = λ asked. absurd (read_otherwise words c.args.command c.in-Ok.command c.in-Ok.is c.requires.asks c.requires.no_shell c.requires.no_soak asked);
      refused = λ refused. refl;
      replayed = λ quiet image is reads done. absurd (faulty.no_check is);
      unfinished = λ quiet image is reads seven. absurd (faulty.no_check is);
      labelled = λ name image is held ok. absurd (faulty.no_label name is);
      made = λ blocks size label image is held done. absurd (faulty.no_volume blocks size label is);
      moments = λ image held i left. inl (held_image _ image i held (g.met.D.Disk.only_now c.args.disk.now i left));
      disk_failed = λ four. absurd (status.four four);
      script_whole = status.five;
      output_failed = λ six. absurd (status.six six);
      disk_later = same_count _;
      clock_later = same_count _;
      output_later = r.later;
    }

pub returns-in-Check : goal.returns-in-Check
returns-in-Check g c =
    let words = c.args.words.now in
    let asks : IsCheckCommand words = subst (Asks words) c.in-Check.is (subst (λ r. IfOk r (Asks words)) c.in-Ok.is c.requires.asks) in
    let e = c.check.ensures in
    record {
      usage = λ none. absurd (no_words_check words none asks);
      faulty = λ two. absurd (e.others (inl two));
      refused_words = λ faulty. absurd (faulty.no_check asks);
      texts = λ either. absurd (⊎_elim (λ none. no_words_check words none asks) (λ two. e.others (inl two)) either);
      whole = λ none ok. absurd (no_words_check words none asks);
      idle = λ either. absurd (⊎_elim (λ none. no_words_check words none asks) (λ faulty. faulty.no_check asks) either);
      silent = e.silent;
      label = λ name is. absurd (no_check_label words name asks is);
      make = λ blocks size label is. absurd (no_check_make words blocks size label asks is);
      check = λ is. e.ends;
      runs = λ asked. absurd (read_otherwise words c.args.command c.in-Ok.command c.in-Ok.is c.requires.asks c.requires.no_shell c.requires.no_soak asked);
      refused = λ refused. ⊎_elim (λ three. e.refused three) (λ rest. ⊎_elim (λ eleven. absurd (e.others (inr (inr eleven)))) (λ rest. ⊎_elim (λ seven. absurd (seven.1 asks)) (λ ten. absurd (e.others (inr (inl ten)))) rest) rest) refused;
      replayed = λ quiet image is. e.replayed quiet image;
      unfinished = λ quiet image is. e.unfinished quiet image;
      labelled = λ name image asked held ok. absurd (no_check_label words name asks asked);
      made = λ blocks size label image asked held done. absurd (no_check_make words blocks size label asks asked);
      moments = λ image held i left. inr (inr (inr (asks, e.moments image held i left)));
      disk_failed = e.disk_failed;
      script_whole = e.script;
      output_failed = e.output_failed;
      disk_later = e.disk_later;
      clock_later = e.clock_later;
      output_later = e.output_later;
    }

pub returns-in-Label : goal.returns-in-Label
returns-in-Label g c =
    let words = c.args.words.now in
    let name = c.in-Label.name.now in
    let asks : IsLabelCommand words name = subst (Asks words) c.in-Label.is (subst (λ r. IfOk r (Asks words)) c.in-Ok.is c.requires.asks) in
    let e = c.label.ensures in
    let after = g.D.Disk.state c.label.new.disk in
    record {
      usage = λ none. absurd (no_words_label words name none asks);
      faulty = λ two. absurd (e.others (inl two));
      refused_words = λ faulty. absurd (faulty.no_label name asks);
      texts = λ either. absurd (⊎_elim (λ none. no_words_label words name none asks) (λ two. e.others (inl two)) either);
      whole = λ none ok. absurd (no_words_label words name none asks);
      idle = λ either. absurd (⊎_elim (λ none. no_words_label words name none asks) (λ faulty. faulty.no_label name asks) either);
      silent = λ seven. absurd (label_seven e.ends.0 (sym e.ends.1 ∙ seven));
      label = λ other is. inr e.ends;
      make = λ blocks size label is. absurd (no_label words name label blocks size asks is);
      check = λ is. absurd (no_check_label words name is asks);
      runs = λ asked. absurd (read_otherwise words c.args.command c.in-Ok.command c.in-Ok.is c.requires.asks c.requires.no_shell c.requires.no_soak asked);
      refused = λ refused. ⊎_elim (λ three. e.refused (inl three)) (λ rest. ⊎_elim (λ eleven. e.refused (inr eleven)) (λ rest. absurd (⊎_elim (λ seven. label_seven e.ends.0 (sym e.ends.1 ∙ seven.0)) (λ ten. label_ten e.ends.0 (sym e.ends.1 ∙ ten)) rest)) rest) refused;
      replayed = λ quiet image is reads done. absurd (no_check_label words name is asks);
      unfinished = λ quiet image is reads seven. absurd (no_check_label words name is asks);
      labelled = λ other image asked held ok. subst (λ n. Tells after (Holds (labelled n image))) (one_name words name other asks asked) (e.done image held ok);
      made = λ blocks size label image asked held done. absurd (no_label words name label blocks size asks asked);
      moments = λ image held i left. ⊎_elim (λ old. inl old) (λ new. inr (inl (name, asks, new))) (e.moments image held i left);
      disk_failed = e.disk_failed;
      script_whole = e.script;
      output_failed = λ six. absurd (e.others (inr six));
      disk_later = e.disk_later;
      clock_later = e.clock_later;
      output_later = e.output_later;
    }

pub returns-in-Make : goal.returns-in-Make
returns-in-Make g c =
    let words = c.args.words.now in
    let volume = c.in-Make.volume in
    let asks : IsMakeCommand words volume.blocks volume.block_size volume.label.now = subst (Asks words) c.in-Make.is (subst (λ r. IfOk r (Asks words)) c.in-Ok.is c.requires.asks) in
    let e = c.make.ensures in
    let old = g.W.Sink.written c.args.out.now in
    let new = g.W.Sink.written c.make.new.out in
    let status = c.make.result in
    let after = g.D.Disk.state c.make.new.disk in
    let stands = g.C.Clock.stands c.args.clock.now in
    let Ends : ℕ → ℕ → Type 0 = λ b s. (making : Making) × ((status ≡ making_status making) ⊎ (IsMade making × (status ≡ 6)))
    × Prints old new (g.W.Sink.faults c.args.out.now) (g.W.Sink.faults c.make.new.out) (making_text making) × MakesBy (g.D.Disk.size c.make.new.disk) b s making
    × (status ≡ 0 → new ≡ appended old (making_text making)) in
    let Leaves : ℕ → ℕ → List ℕ → Type 0 = λ b s l. Tells after (λ st. IsQuiet st × ((k : List ℕ) → ReadsAs st k → IsNewVolume b s l stands k)) in
    record {
      usage = λ none. absurd (no_words_make words volume.blocks volume.block_size volume.label.now none asks);
      faulty = λ two. absurd (e.others (inl two));
      refused_words = λ faulty. absurd (faulty.no_volume volume.blocks volume.block_size volume.label.now asks);
      texts = λ either. absurd (⊎_elim (λ none. no_words_make words volume.blocks volume.block_size volume.label.now none asks) (λ two. e.others (inl two)) either);
      whole = λ none ok. absurd (no_words_make words volume.blocks volume.block_size volume.label.now none asks);
      idle = λ either. absurd (⊎_elim (λ none. no_words_make words volume.blocks volume.block_size volume.label.now none asks) (λ faulty. faulty.no_volume volume.blocks volume.block_size volume.label.now asks) either);
      silent = λ seven. making_silent e.ends.0 status old new _ _ e.ends.1 e.ends.2 seven;
      label = λ name is. absurd (no_label words name volume.label.now volume.blocks volume.block_size is asks);
      make = λ blocks size label asked.
          let same = one_volume words volume.blocks blocks volume.block_size size volume.label.now label asks asked in
          inr (subst (λ b. Ends b size) same.blocks_same (subst (λ s. Ends volume.blocks s) same.sizes_same e.ends));
      check = λ is. absurd (no_check_make words volume.blocks volume.block_size volume.label.now is asks);
      runs = λ asked. absurd (read_otherwise words c.args.command c.in-Ok.command c.in-Ok.is c.requires.asks c.requires.no_shell c.requires.no_soak asked);
      refused = λ refused. ⊎_elim (λ three. absurd (e.others (inr (inl three)))) (λ rest. ⊎_elim (λ eleven. absurd (e.others (inr (inr eleven)))) (λ rest. ⊎_elim (λ seven. e.refused (inl seven.0)) (λ ten. e.refused (inr ten)) rest) rest) refused;
      replayed = λ quiet image is reads done. absurd (no_check_make words volume.blocks volume.block_size volume.label.now is asks);
      unfinished = λ quiet image is reads seven. absurd (no_check_make words volume.blocks volume.block_size volume.label.now is asks);
      labelled = λ name image asked held ok. absurd (no_label words name volume.label.now volume.blocks volume.block_size asked asks);
      made = λ blocks size label image asked held is.
          let same = one_volume words volume.blocks blocks volume.block_size size volume.label.now label asks asked in
          subst (λ b. Leaves b size label) same.blocks_same
          (subst (λ s. Leaves volume.blocks s label) same.sizes_same
          (subst (λ l. Leaves volume.blocks volume.block_size l) same.labels_same (e.made image held is)));
      moments = λ image held i left.
          ⊎_elim (λ old. inl old) (λ new. inr (inr (inl (volume.blocks, volume.block_size, volume.label.now, asks, new)))) (e.moments image held i left);
      disk_failed = e.disk_failed;
      script_whole = e.script;
      output_failed = e.output_failed;
      disk_later = e.disk_later;
      clock_later = e.clock_later;
      output_later = e.output_later;
    }
