use Rattle.parlab.proofs.carry.Goals as goal

-- the end is that of the top call
pub returns : goal.returns
returns g c =
    let top = c.top-ended.ensures in
    record {
      ended = c.top-ended.result;
      same = c.from.ensures;
      statuses = top.statuses;
      done = top.done;
      quiet = top.quiet;
      raised = top.raised;
      usage = top.usage;
      only_usage = top.only_usage;
      usage_line = top.usage_line;
      untouched = top.untouched;
      read = top.read;
      read_grew = top.read_grew;
      read_line = top.read_line;
      write = top.write;
      out_grew = top.out_grew;
      notes_grew = top.notes_grew;
      refused = top.refused;
      silent = top.silent;
      part = top.part;
      usage_part = top.usage_part;
      notes_part = top.notes_part;
      stopped = top.stopped;
      memory = top.memory;
      said = top.said;
      script = top.script;
      script_part = top.script_part;
      no_script = top.no_script;
      no_script_of_usage = top.no_script_of_usage;
      told = top.told;
      journal = top.journal;
      no_choice = top.no_choice;
      no_choice_of_usage = top.no_choice_of_usage;
      no_choice_unread = top.no_choice_unread;
      no_choice_unrun = top.no_choice_unrun;
    }
