use Rattle.std.proofs.Common.{rules, ◌≡◌, ◌∙◌, ◌⊎◌, ◌+◌, ℕ, List, inl, inr, ⊎_elim, sym, subst, arith}
use Rattle.std.specs.Prelude.{◌≢◌, IfOk}
use Rattle.bfs_disk.specs.State.{Tells, Holds, ReadsAs}
use Rattle.std.specs.FinMap.{empty}
use Rattle.bfs_ports.specs.Ports.{appended}
use Rattle.bfs_tree.specs.Histories.{Mounted}
use Rattle.bfs_soak.specs.Workload.{workload}
use Rattle.bfs_run.specs.Mounts.{IsMountedFrom, mounted_image}
use Rattle.bfs_run.specs.Runs.{HasRun, IsUnmountedRun, HasRunFailures}
use Rattle.bfs_run.specs.declared.run.Run.{Run}
use Rattle.bfs_words.specs.Words.{Asks, IsShellCommand, IsSoakCommand}
use Rattle.bfs_words.proofs.Callers.{no_words_soak, no_words_shell, no_shell_label, no_shell_make, no_shell_check, no_soak_label, no_soak_make, no_soak_check, no_soak_shell, one_workload}
use Rattle.bfs_run.proofs.Bare.{mounts_bare}
use Rattle.std.specs.Prelude.{Ok}
use Rattle.bfs_words.specs.declared.command.Command.TheVariants as commands
use Rattle.bfs_tool.proofs.Shells.{shell_asked}
use Rattle.bfs_tool.proofs.Complete.{can_elim, usage_ends, label_ends, making_ends, checking_ends, run_ends, no_bad_line, no_damage}
use Rattle.bfs_tool.specs.Shell.{EndsAs, LeavesUnmounted, RunsBy, soak_text}
use Rattle.bfs_tool.specs.Tool.{Prints}
use Rattle.bfs_tool.proofs.tool.bfs.Goals as goal

pub returns : goal.returns
returns g c =
    let n = c.run-status.ensures in
    record {
      usage = n.usage;
      faulty = n.faulty;
      refused_words = n.refused_words;
      texts = n.texts;
      whole = n.whole;
      idle = n.idle;
      silent = n.silent;
      label = n.label;
      make = n.make;
      check = n.check;
      shell = λ is. (let r = n.runs (inl is) in inl (r.0, λ i. (r.1 i).disk));
      soak = λ seed count is. (let r = n.runs (inr (seed, count, is)) in inl (r.0, λ i. (r.1 i).disk));
      no_script = λ seed count is script.
          let seven = (n.runs (inr (seed, count, is))).0 in
          ⊎_elim (λ five. let bad : 7 ≡ 5 = sym seven ∙ five in absurd (omega (arith, bad))) (λ nine. let bad : 7 ≡ 9 = sym seven ∙ nine in absurd (omega (arith, bad))) script;
      refused = λ other. n.refused;
      labelled = n.labelled;
      made = n.made;
      replayed = n.replayed;
      unfinished = n.unfinished;
      moments = λ other. n.moments;
      disk_failed = n.disk_failed;
      script_failed = λ five. absurd (n.script_whole five);
      output_failed = n.output_failed;
      disk_later = n.disk_later;
      clock_later = n.clock_later;
      output_later = n.output_later;
      complete = λ image told can disk script output.
          let reads : Tells (g.D.Disk.state c.args.disk) (λ s. ReadsAs s image) = (told.0, told.1, told.2.reads) in
          can_elim c.args.words.now _ image _ can
          (λ none. usage_ends _ (n.usage none) (λ six. output (n.output_failed six)))
          (λ name is good. ⊎_elim inr (λ r. label_ends image _ r.0 good (λ four. disk (n.disk_failed four)) r.1 (r.5 image reads)) (n.label name is))
          (λ blocks size label is enough fits. ⊎_elim inr (λ r. making_ends _ blocks size _ r.0 enough fits (λ four. disk (n.disk_failed four)) (λ six. output (n.output_failed six)) r.1 r.3) (n.make blocks size label is))
          (λ tree is recovers. ⊎_elim inr (λ r. checking_ends image tree _ r.0 recovers (λ four. disk (n.disk_failed four)) (λ six. output (n.output_failed six)) r.1 (r.5 image reads)) (n.check is))
          (λ tree is recovers valid. inr (n.runs (inl is)).0)
          (λ seed count tree is recovers. inr (n.runs (inr (seed, count, is))).0);
    }

pub returns-in-Some : goal.returns-in-Some
returns-in-Some g c =
    let words = c.args.words.now in
    let w = c.in-Some.workload in
    let asks : IsSoakCommand words w.seed w.count = subst (λ r. IfOk r (Asks words)) c.in-Some.ensures c.read_words-command.ensures in
    let e = c.soak.ensures in
    let r = e.ends in
    record {
      usage = λ none. absurd (no_words_soak words w.seed w.count none asks);
      faulty = λ two. absurd (e.others (inl two));
      refused_words = λ faulty. absurd (faulty.no_soak w.seed w.count asks);
      texts = λ either. absurd (⊎_elim (λ none. no_words_soak words w.seed w.count none asks) (λ two. e.others (inl two)) either);
      whole = λ none ok. absurd (no_words_soak words w.seed w.count none asks);
      idle = λ either. absurd (⊎_elim (λ none. no_words_soak words w.seed w.count none asks) (λ faulty. faulty.no_soak w.seed w.count asks) either);
      silent = e.silent;
      label = λ name is. absurd (no_soak_label words w.seed w.count name asks is);
      make = λ blocks size label is. absurd (no_soak_make words w.seed w.count blocks size label asks is);
      check = λ is. absurd (no_soak_check words w.seed w.count asks is);
      shell = λ is. absurd (no_soak_shell words w.seed w.count asks is);
      soak = λ seed count asked.
          let same = one_workload words w.seed seed w.count count asks asked in
          let ended = c.soak.result in
          let before = g.W.Sink.written c.args.out.now in
          let after = g.W.Sink.written c.soak.new.out in
          let told = g.D.Disk.state c.args.disk in
          let begun = g.D.Disk.clock c.args.disk in
          let since = g.D.Disk.since ended.1 in
          let Ends : ℕ → ℕ → Type 0 = λ s n. (run : Run) × EndsAs run ended.0
          × (ended.0 ≢ 7 → Prints before after (g.W.Sink.faults c.args.out.now) (g.W.Sink.faults c.soak.new.out) (soak_text (4 + n) run))
          × (ended.0 ≡ 0 → after ≡ appended before (soak_text (4 + n) run))
          × ((image : List ℕ) → Tells told (Holds image) → RunsBy image run × LeavesUnmounted image run begun since)
          × ((t0 : Mounted) (image : List ℕ) → Tells told (Holds image) → (mounted : IsMountedFrom image t0)
          → IsUnmountedRun run ⊎ HasRun t0 (mounted_image mounted) run (workload s n) (g.D.Disk.state ended.1) begun since (g.C.Clock.stands c.args.clock) (g.D.Disk.faults c.args.disk) (g.D.Disk.faults ended.1) (g.D.Disk.stops c.args.disk) (g.D.Disk.stops ended.1))
          × (IsUnmountedRun run ⊎ HasRunFailures run (g.D.Disk.faults c.args.disk) (g.D.Disk.faults ended.1) (g.D.Disk.stops c.args.disk) (g.D.Disk.stops ended.1)) in
          inr (subst (λ s. Ends s count) same.seeds_same (subst (λ n. Ends w.seed n) same.counts_same c.soak.ensures.ends));
      no_script = λ seed count is script. ⊎_elim (λ five. e.others (inr (inl five))) (λ nine. e.others (inr (inr (inr (inl nine))))) script;
      refused = λ other. absurd (other (inr (w.seed, w.count, asks)));
      labelled = λ name image is told ok. absurd (no_soak_label words w.seed w.count name asks is);
      made = λ blocks size label image is told done. absurd (no_soak_make words w.seed w.count blocks size label asks is);
      replayed = λ quiet image is told done. absurd (no_soak_check words w.seed w.count asks is);
      unfinished = λ quiet image is told seven. absurd (no_soak_check words w.seed w.count asks is);
      moments = λ other. absurd (other (inr (w.seed, w.count, asks)));
      disk_failed = e.disk_failed;
      script_failed = λ five. absurd (e.others (inr (inl five)));
      output_failed = e.output_failed;
      disk_later = e.disk_later;
      clock_later = e.disk_clock;
      output_later = e.output_later;
      complete = λ image told can disk script output.
          can_elim words _ image _ can
          (λ none. absurd (no_words_soak words w.seed w.count none asks))
          (λ name is good. absurd (no_soak_label words w.seed w.count name asks is))
          (λ blocks size label is enough fits. absurd (no_soak_make words w.seed w.count blocks size label asks is))
          (λ tree is recovers. absurd (no_soak_check words w.seed w.count asks is))
          (λ tree is recovers valid. absurd (no_soak_shell words w.seed w.count asks is))
          (λ seed count tree is recovers.
          let mounted = mounts_bare image tree recovers in
          let t0 : Mounted = record { tree = tree; bytes = empty } in
          run_ends image tree _ r.0 recovers (λ four. disk (e.disk_failed four)) (λ five. e.others (inr (inl five))) (λ six. output (e.output_failed six)) (λ number bad nine. e.others (inr (inr (inr (inl nine))))) (r.4 image told).0
          (no_damage t0 r.0 (⊎_elim (λ none. inl none) (λ h. inr (h.history, h.is, h.legal)) (r.5 t0 image told mounted))) r.1);
    }

pub returns-in-Ok-Shell : goal.returns-in-Ok-Shell
returns-in-Ok-Shell g c =
    let words = c.args.words.now in
    let asks : IsShellCommand words = shell_asked words c.read_words-command.result (let e : c.read_words-command.result ≡ Ok commands.Shell = search rules in e) c.read_words-command.ensures in
    let e = c.shell.ensures in
    let r = e.ends in
    record {
      usage = λ none. absurd (no_words_shell words none asks);
      faulty = λ two. absurd (e.others (inl two));
      refused_words = λ faulty. absurd (faulty.no_shell asks);
      texts = λ either. absurd (⊎_elim (λ none. no_words_shell words none asks) (λ two. e.others (inl two)) either);
      whole = λ none ok. absurd (no_words_shell words none asks);
      idle = λ either. absurd (⊎_elim (λ none. no_words_shell words none asks) (λ faulty. faulty.no_shell asks) either);
      silent = e.silent;
      label = λ name is. absurd (no_shell_label words name asks is);
      make = λ blocks size label is. absurd (no_shell_make words blocks size label asks is);
      check = λ is. absurd (no_shell_check words asks is);
      shell = λ is. inr r;
      soak = λ seed count is. absurd (no_soak_shell words seed count is asks);
      no_script = λ seed count is script. no_soak_shell words seed count is asks;
      refused = λ other. absurd (other (inl asks));
      labelled = λ name image is told ok. absurd (no_shell_label words name asks is);
      made = λ blocks size label image is told done. absurd (no_shell_make words blocks size label asks is);
      replayed = λ quiet image is told done. absurd (no_shell_check words asks is);
      unfinished = λ quiet image is told seven. absurd (no_shell_check words asks is);
      moments = λ other. absurd (other (inl asks));
      disk_failed = e.disk_failed;
      script_failed = e.script_failed;
      output_failed = e.output_failed;
      disk_later = e.disk_later;
      clock_later = e.disk_clock;
      output_later = e.output_later;
      complete = λ image told can disk script output.
          can_elim words _ image _ can
          (λ none. absurd (no_words_shell words none asks))
          (λ name is good. absurd (no_shell_label words name asks is))
          (λ blocks size label is enough fits. absurd (no_shell_make words blocks size label asks is))
          (λ tree is recovers. absurd (no_shell_check words asks is))
          (λ tree is recovers valid.
          let mounted = mounts_bare image tree recovers in
          let t0 : Mounted = record { tree = tree; bytes = empty } in
          run_ends image tree _ r.0 recovers (λ four. disk (e.disk_failed four)) (λ five. script (e.script_failed five)) (λ six. output (e.output_failed six)) (λ number bad nine. no_bad_line _ r.0 r.5 valid number bad) (r.4 image told).0
          (no_damage t0 r.0 (⊎_elim (λ none. inl none) (λ h. let run = h.1 in inr (run.history, run.is, run.legal)) (r.6 t0 image told mounted))) r.1)
          (λ seed count tree is recovers. absurd (no_soak_shell words seed count is asks));
    }
