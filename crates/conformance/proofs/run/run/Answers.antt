use Rattle.std.proofs.Common.{Some, refl, ap, ◌∙◌}
use Rattle.pl_io.specs.Named.{content}
use Rattle.pl_session.specs.Says.{side}
use Rattle.conformance.specs.Choices.{choice_lines}
use Rattle.conformance.proofs.run.run.Goals as goal

-- the end is that of the top call, over the case's files and sinks
pub returns : goal.returns
returns g c =
    let top = c.top-ended.ensures in
    record {
      files = side content (λ f. f.faults) c.in_ok-files.files c.top-ended.new.files;
      out = side (λ s. Some s.bytes.items) (λ s. s.faults) c.in_ok-out.out c.top-ended.new.out;
      notes = side (λ s. Some s.bytes.items) (λ s. s.faults) c.in_ok-notes.notes c.top-ended.new.notes;
      files_are = refl;
      out_is = refl;
      notes_are = refl;
      given = c.in_ok-files.ensures;
      empty_out = c.in_ok-out.ensures;
      empty_notes = c.in_ok-notes.ensures;
      says = record {
        ended = c.top-ended.result;
        same = refl;
        statuses = top.statuses;
        done = top.done;
        quiet = top.quiet;
        raised = top.raised;
        usage = top.usage;
        only_usage = top.only_usage;
        usage_line = top.usage_line;
        untouched = top.untouched;
        read = top.read;
        read_grew = top.read_grew;
        read_line = top.read_line;
        write = top.write;
        out_grew = top.out_grew;
        notes_grew = top.notes_grew;
        refused = top.refused;
        silent = top.silent;
        part = top.part;
        usage_part = top.usage_part;
        notes_part = top.notes_part;
        stopped = top.stopped;
        memory = top.memory;
        said = top.said;
        script = top.script;
        script_part = top.script_part;
        no_script = top.no_script;
        no_script_of_usage = top.no_script_of_usage;
        told = top.told;
        journal = top.journal;
        no_choice = top.no_choice;
        no_choice_of_usage = top.no_choice_of_usage;
        no_choice_unread = top.no_choice_unread;
        no_choice_unrun = top.no_choice_unrun;
      };
      out_left = c.in_ok-of.ensures ∙ c.written.ensures;
      notes_left = c.in_ok-of-2.ensures ∙ c.written-2.ensures;
      choices = c.in_ok-lines.ensures ∙ ap choice_lines c.items.ensures;
    }
