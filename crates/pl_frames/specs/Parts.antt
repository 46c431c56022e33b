-- The parts of compound statements: what a header makes of the statement that it belongs to.
use Rattle.std.specs.Prelude.{Some, None, List, [], ◌∷◌, ◌++◌}
use Rattle.pl_syntax.specs.declared.expr.Expr.{Expr}
use Rattle.pl_syntax.specs.declared.stmt.Stmt.{Stmt}
use Rattle.pl_syntax.specs.declared.stmt.Arm.{Arm}
use Rattle.pl_grammar.specs.declared.owner.Owner.{Owner}
use Rattle.pl_grammar.specs.declared.owner.Owner.TheVariants as own
use Rattle.pl_grammar.specs.declared.terminal.Keyword.{Keyword}
use Rattle.pl_grammar.specs.declared.terminal.Keyword.TheVariants as k
use Rattle.pl_grammar.specs.Trees.{arm, for_owner, test_owner, with_value, with_none}
use Rattle.pl_frames.specs.declared.operand.Mark.{Mark}
use Rattle.pl_frames.specs.declared.parts.Front.{Front}
use Rattle.pl_frames.specs.declared.parts.Turn.{Turn}
use Rattle.pl_frames.specs.declared.parts.Turn.TheVariants as turned_by
use Rattle.pl_frames.specs.declared.stack.Opened.{Opened}
use Rattle.pl_frames.specs.declared.stack.Site.{Site}
use Rattle.pl_frames.specs.declared.stack.Spot.{Spot}
use Rattle.pl_frames.specs.declared.stack.Spot.TheVariants as spot
use Rattle.pl_frames.specs.declared.stack.Lead.{Lead}
use Rattle.pl_frames.specs.declared.stack.Lead.TheVariants as lead
use Rattle.pl_frames.specs.declared.stack.Inner.{Inner}
use Rattle.pl_frames.specs.declared.stack.Inner.TheVariants as inner
use Rattle.pl_frames.specs.declared.stack.Heading.{Heading}
use Rattle.pl_frames.specs.declared.stack.Heading.TheVariants as heading
use Rattle.pl_frames.specs.declared.stack.Part.{Part}
use Rattle.pl_frames.specs.declared.stack.Part.TheVariants as part

abbrev pub with_arm : List Arm → Expr → List Stmt → List Arm
with_arm arms e ss = arms ++ arm e ss ∷ []

abbrev pub lead_owner : Lead → Expr → Owner
lead_owner (lead.Test word m) e = test_owner word e
lead_owner (lead.Each word m n) e = for_owner word n e

abbrev pub inner_owner : Inner → Expr → Owner
inner_owner (inner.EachIn word m n) e = for_owner word n e
inner_owner (inner.Bound m n e) w = own.Parfor n e (Some w)
inner_owner (inner.Workers m) e = own.Spmd (Some e)

abbrev pub heading_owner : Heading → Owner
heading_owner (heading.Upto l e) = lead_owner l e
heading_owner (heading.Shut i e) = inner_owner i e
heading_owner (heading.NoValue word m) = own.Spmd None

-- the first part of a compound statement
abbrev pub begun : Part → Owner
begun (part.Headed h) = heading_owner h
begun (part.Unheaded word m) = own.Try

-- what a further part with a value finds before it
abbrev pub turn_of : Owner → Turn
turn_of (own.If arms t) = turned_by.Arm arms t
turn_of (own.Switch v) = turned_by.Subject v
turn_of (own.Case v arms t) = turned_by.Case v arms t
turn_of o = turned_by.Other o

-- and what the part makes of it, the block done
abbrev pub turned : Turn → List Stmt → Expr → Owner
turned (turned_by.Arm arms t) ss e = own.If (with_arm arms t ss) e
turned (turned_by.Subject v) ss e = own.Case v [] e
turned (turned_by.Case v arms t) ss e = own.Case v (with_arm arms t ss) e
turned (turned_by.Other o) ss e = o

abbrev pub with_heading : Owner → List Stmt → Heading → Owner
with_heading o ss (heading.Upto l e) = with_value o ss e
with_heading o ss (heading.Shut i e) = o
with_heading o ss (heading.NoValue word m) = own.Catch ss

-- the block is done, and a further part follows
abbrev pub with_part : Owner → List Stmt → Part → Owner
with_part o ss (part.Headed h) = with_heading o ss h
with_part o ss (part.Unheaded word m) = with_none o ss

abbrev pub front : Keyword → Mark → Front
front word m = record { word = word; mark = m }

abbrev pub lead_word : Lead → Front
lead_word (lead.Test word m) = front word m
lead_word (lead.Each word m n) = front word m

abbrev pub inner_word : Inner → Front
inner_word (inner.EachIn word m n) = front word m
inner_word (inner.Bound m n e) = front k.Parfor m
inner_word (inner.Workers m) = front k.Spmd m

-- the keyword of a part, and its mark
abbrev pub heading_word : Heading → Front
heading_word (heading.Upto l e) = lead_word l
heading_word (heading.Shut i e) = inner_word i
heading_word (heading.NoValue word m) = front word m

abbrev pub part_word : Part → Front
part_word (part.Headed h) = heading_word h
part_word (part.Unheaded word m) = front word m

abbrev pub continued : Opened → List Stmt → Part → Opened
continued o ss p = record { owner = with_part o.owner ss p; word = (part_word p).word; mark = o.mark }

abbrev pub first : Part → Opened
first p = record { owner = begun p; word = (part_word p).word; mark = (part_word p).mark }

-- the site inside a compound statement
abbrev pub within : Opened → Site → Site
within o s = record { root = s.root; levels = record { opened = o; before = s.block } ∷ s.levels; block = [] }

-- the site of a part's block
unfoldable pub enter : Part → Spot → Site
enter p (spot.Here s) = within (first p) s
enter p (spot.Linked o b s) = within (continued o b p) s
