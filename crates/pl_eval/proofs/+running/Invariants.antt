-- Each call goes down by a level, or by a rank at its level; and what is left of a list comes to what the whole came to.
use Rattle.std.specs.Prelude.{◌+◌, ◌-◌, ◌*◌, [], length, drop}
use Rattle.std.specs.Vec.Iter.{into_iter_items}
use Rattle.pl_meaning.specs.Promises.{Comes, Keeps, at}
use Rattle.pl_meaning.specs.Parts.{below, level_at, value_in, places_from, values_from, elements_from, rows_from, arms_from, cases_from, passes, columns_from, targets_from, block_from}
use Rattle.pl_eval.proofs.+running.Given as goal

abbrev pub decreases-expressions::value : goal.decreases-expressions::value
decreases-expressions::value g l = 32 * l.levels + 3

abbrev pub decreases-expressions::nested : goal.decreases-expressions::nested
decreases-expressions::nested g l = 32 * l.levels + 0

abbrev pub decreases-expressions::compound : goal.decreases-expressions::compound
decreases-expressions::compound g l = 32 * l.levels + 13

abbrev pub decreases-expressions::variable : goal.decreases-expressions::variable
decreases-expressions::variable g l = 32 * l.levels + 2

abbrev pub decreases-expressions::called_alone : goal.decreases-expressions::called_alone
decreases-expressions::called_alone g l = 32 * l.levels + 1

abbrev pub decreases-applying::application : goal.decreases-applying::application
decreases-applying::application g l = 32 * l.levels + 12

abbrev pub decreases-applying::applied_once : goal.decreases-applying::applied_once
decreases-applying::applied_once g l = 32 * l.levels + 11

abbrev pub decreases-applying::indexed : goal.decreases-applying::indexed
decreases-applying::indexed g l = 32 * l.levels + 6

abbrev pub decreases-applying::stepped : goal.decreases-applying::stepped
decreases-applying::stepped g l = 32 * l.levels + 4

abbrev pub decreases-applying::span : goal.decreases-applying::span
decreases-applying::span g l = 32 * l.levels + 5

abbrev pub decreases-operators::unary : goal.decreases-operators::unary
decreases-operators::unary g l = 32 * l.levels + 4

abbrev pub decreases-operators::operation : goal.decreases-operators::operation
decreases-operators::operation g l = 32 * l.levels + 7

abbrev pub decreases-operators::binary : goal.decreases-operators::binary
decreases-operators::binary g l = 32 * l.levels + 4

abbrev pub decreases-operators::switch : goal.decreases-operators::switch
decreases-operators::switch g l = 32 * l.levels + 4

abbrev pub decreases-operators::both : goal.decreases-operators::both
decreases-operators::both g l = 32 * l.levels + 6

abbrev pub decreases-operators::second : goal.decreases-operators::second
decreases-operators::second g l = 32 * l.levels + 5

abbrev pub decreases-operators::either : goal.decreases-operators::either
decreases-operators::either g l = 32 * l.levels + 6

abbrev pub decreases-operators::other : goal.decreases-operators::other
decreases-operators::other g l = 32 * l.levels + 5

abbrev pub decreases-operators::bracket : goal.decreases-operators::bracket
decreases-operators::bracket g l = 32 * l.levels + 7

abbrev pub decreases-lists::argument : goal.decreases-lists::argument
decreases-lists::argument g l = 32 * l.levels + 4

abbrev pub decreases-lists::places : goal.decreases-lists::places
decreases-lists::places g l = 32 * l.levels + 5

abbrev pub decreases-lists::values : goal.decreases-lists::values
decreases-lists::values g l = 32 * l.levels + 5

abbrev pub decreases-lists::elements : goal.decreases-lists::elements
decreases-lists::elements g l = 32 * l.levels + 5

abbrev pub decreases-lists::rows : goal.decreases-lists::rows
decreases-lists::rows g l = 32 * l.levels + 6

abbrev pub decreases-calling::called : goal.decreases-calling::called
decreases-calling::called g l = 32 * l.levels + 0

abbrev pub decreases-calling::applied : goal.decreases-calling::applied
decreases-calling::applied g l = 32 * l.levels + 10

abbrev pub decreases-calling::call_name : goal.decreases-calling::call_name
decreases-calling::call_name g l = 32 * l.levels + 9

abbrev pub decreases-calling::call_named : goal.decreases-calling::call_named
decreases-calling::call_named g l = 32 * l.levels + 8

abbrev pub decreases-calling::call_known : goal.decreases-calling::call_known
decreases-calling::call_known g l = 32 * l.levels + 7

abbrev pub decreases-calling::call_library : goal.decreases-calling::call_library
decreases-calling::call_library g l = 32 * l.levels + 6

abbrev pub decreases-calling::fed : goal.decreases-calling::fed
decreases-calling::fed g l = 32 * l.levels + 5

abbrev pub decreases-calling::numbered : goal.decreases-calling::numbered
decreases-calling::numbered g l = 32 * l.levels + 4

abbrev pub decreases-local::call : goal.decreases-local::call
decreases-local::call g l = 32 * l.levels + 3

abbrev pub decreases-local::checked : goal.decreases-local::checked
decreases-local::checked g l = 32 * l.levels + 2

abbrev pub decreases-local::begin : goal.decreases-local::begin
decreases-local::begin g l = 32 * l.levels + 1

abbrev pub decreases-local::enter_body : goal.decreases-local::enter_body
decreases-local::enter_body g l = 32 * l.levels + 0

abbrev pub decreases-local::body : goal.decreases-local::body
decreases-local::body g l = 32 * l.levels + 15

abbrev pub decreases-local::results_of : goal.decreases-local::results_of
decreases-local::results_of g l = 32 * l.levels + 14

abbrev pub decreases-outputs::outputs : goal.decreases-outputs::outputs
decreases-outputs::outputs g l = 32 * l.levels + 5

abbrev pub decreases-outputs::alone : goal.decreases-outputs::alone
decreases-outputs::alone g l = 32 * l.levels + 4

abbrev pub decreases-outputs::listed : goal.decreases-outputs::listed
decreases-outputs::listed g l = 32 * l.levels + 5

abbrev pub decreases-outputs::refused : goal.decreases-outputs::refused
decreases-outputs::refused g l = 32 * l.levels + 4

abbrev pub decreases-branching::test : goal.decreases-branching::test
decreases-branching::test g l = 32 * l.levels + 4

abbrev pub decreases-branching::branches : goal.decreases-branching::branches
decreases-branching::branches g l = 32 * l.levels + 14

abbrev pub decreases-branching::fits : goal.decreases-branching::fits
decreases-branching::fits g l = 32 * l.levels + 4

abbrev pub decreases-branching::cases : goal.decreases-branching::cases
decreases-branching::cases g l = 32 * l.levels + 15

abbrev pub decreases-branching::choose : goal.decreases-branching::choose
decreases-branching::choose g l = 32 * l.levels + 14

abbrev pub decreases-branching::attempt : goal.decreases-branching::attempt
decreases-branching::attempt g l = 32 * l.levels + 15

abbrev pub decreases-branching::recover : goal.decreases-branching::recover
decreases-branching::recover g l = 32 * l.levels + 14

abbrev pub decreases-loops::repeat : goal.decreases-loops::repeat
decreases-loops::repeat g l = 32 * l.levels + 14

abbrev pub decreases-loops::count : goal.decreases-loops::count
decreases-loops::count g l = 32 * l.levels + 16

abbrev pub decreases-loops::counted : goal.decreases-loops::counted
decreases-loops::counted g l = 32 * l.levels + 15

abbrev pub decreases-loops::each_column : goal.decreases-loops::each_column
decreases-loops::each_column g l = 32 * l.levels + 14

abbrev pub decreases-sharing::ends : goal.decreases-sharing::ends
decreases-sharing::ends g l = 32 * l.levels + 2

abbrev pub decreases-sharing::range_ends : goal.decreases-sharing::range_ends
decreases-sharing::range_ends g l = 32 * l.levels + 1

abbrev pub decreases-sharing::inner_ends : goal.decreases-sharing::inner_ends
decreases-sharing::inner_ends g l = 32 * l.levels + 0

abbrev pub decreases-sharing::both_ends : goal.decreases-sharing::both_ends
decreases-sharing::both_ends g l = 32 * l.levels + 4

abbrev pub decreases-sharing::divide : goal.decreases-sharing::divide
decreases-sharing::divide g l = 32 * l.levels + 16

abbrev pub decreases-statements::block : goal.decreases-statements::block
decreases-statements::block g l = 32 * l.levels + 13

abbrev pub decreases-statements::statement : goal.decreases-statements::statement
decreases-statements::statement g l = 32 * l.levels + 12

abbrev pub decreases-statements::nested : goal.decreases-statements::nested
decreases-statements::nested g l = 32 * l.levels + 0

abbrev pub decreases-statements::compound : goal.decreases-statements::compound
decreases-statements::compound g l = 32 * l.levels + 17

abbrev pub decreases-statements::evaluation : goal.decreases-statements::evaluation
decreases-statements::evaluation g l = 32 * l.levels + 6

abbrev pub decreases-statements::deletion : goal.decreases-statements::deletion
decreases-statements::deletion g l = 32 * l.levels + 8

abbrev pub decreases-statements::take_out : goal.decreases-statements::take_out
decreases-statements::take_out g l = 32 * l.levels + 7

abbrev pub decreases-statements::delete_at : goal.decreases-statements::delete_at
decreases-statements::delete_at g l = 32 * l.levels + 6

abbrev pub decreases-assigning::assignment : goal.decreases-assigning::assignment
decreases-assigning::assignment g l = 32 * l.levels + 9

abbrev pub decreases-assigning::assign : goal.decreases-assigning::assign
decreases-assigning::assign g l = 32 * l.levels + 8

abbrev pub decreases-assigning::assign_part : goal.decreases-assigning::assign_part
decreases-assigning::assign_part g l = 32 * l.levels + 7

abbrev pub decreases-assigning::assign_places : goal.decreases-assigning::assign_places
decreases-assigning::assign_places g l = 32 * l.levels + 6

abbrev pub decreases-assigning::list_assignment : goal.decreases-assigning::list_assignment
decreases-assigning::list_assignment g l = 32 * l.levels + 11

abbrev pub decreases-assigning::assign_all : goal.decreases-assigning::assign_all
decreases-assigning::assign_all g l = 32 * l.levels + 10

abbrev pub decreases-assigning::assign_each : goal.decreases-assigning::assign_each
decreases-assigning::assign_each g l = 32 * l.levels + 9

abbrev pub invariant-lists::places-loop-e : goal.invariant-lists::places-loop-e
invariant-lists::places-loop-e g l = Comes (places_from (value_in l.program (below l.program l.levels)) l.frame l.slot (length l.list) [] l.list) (at l.fn.memory (g.W.World.log l.fn.world)) (places_from (value_in l.program (below l.program l.levels)) l.frame l.slot (length l.list) l.done.items (drop l.e-index l.list)) (at l.memory (g.W.World.log l.world)) × Keeps (at l.fn.memory (g.W.World.log l.fn.world)) (at l.memory (g.W.World.log l.world))

abbrev pub invariant-lists::values-loop-e : goal.invariant-lists::values-loop-e
invariant-lists::values-loop-e g l = Comes (values_from (value_in l.program (below l.program l.levels)) l.frame l.place [] l.list) (at l.fn.memory (g.W.World.log l.fn.world)) (values_from (value_in l.program (below l.program l.levels)) l.frame l.place l.done.items (drop l.e-index l.list)) (at l.memory (g.W.World.log l.world)) × Keeps (at l.fn.memory (g.W.World.log l.fn.world)) (at l.memory (g.W.World.log l.world))

abbrev pub invariant-lists::elements-loop-e : goal.invariant-lists::elements-loop-e
invariant-lists::elements-loop-e g l = Comes (elements_from (value_in l.program (below l.program l.levels)) l.frame [] l.list) (at l.fn.memory (g.W.World.log l.fn.world)) (elements_from (value_in l.program (below l.program l.levels)) l.frame l.done (drop l.e-index l.list)) (at l.memory (g.W.World.log l.world)) × Keeps (at l.fn.memory (g.W.World.log l.fn.world)) (at l.memory (g.W.World.log l.world))

abbrev pub invariant-lists::rows-loop-list : goal.invariant-lists::rows-loop-list
invariant-lists::rows-loop-list g l = Comes (rows_from (value_in l.program (below l.program l.levels)) l.frame [] l.lists) (at l.fn.memory (g.W.World.log l.fn.world)) (rows_from (value_in l.program (below l.program l.levels)) l.frame l.done.items (drop l.list-index l.lists)) (at l.memory (g.W.World.log l.world)) × Keeps (at l.fn.memory (g.W.World.log l.fn.world)) (at l.memory (g.W.World.log l.world))

abbrev pub invariant-branching::branches-loop-arm : goal.invariant-branching::branches-loop-arm
invariant-branching::branches-loop-arm g l = Comes (arms_from l.program (level_at l.program (below l.program l.levels)) l.frame l.place l.other l.arms) (at l.fn.memory (g.W.World.log l.fn.world)) (arms_from l.program (level_at l.program (below l.program l.levels)) l.frame l.place l.other (drop l.arm-index l.arms)) (at l.memory (g.W.World.log l.world)) × Keeps (at l.fn.memory (g.W.World.log l.fn.world)) (at l.memory (g.W.World.log l.world))

abbrev pub invariant-branching::choose-loop-arm : goal.invariant-branching::choose-loop-arm
invariant-branching::choose-loop-arm g l = Comes (cases_from l.program (level_at l.program (below l.program l.levels)) l.frame l.place l.other l.v l.arms) (at l.fn.memory (g.W.World.log l.fn.world)) (cases_from l.program (level_at l.program (below l.program l.levels)) l.frame l.place l.other l.v (drop l.arm-index l.arms)) (at l.memory (g.W.World.log l.world)) × Keeps (at l.fn.memory (g.W.World.log l.fn.world)) (at l.memory (g.W.World.log l.world))

abbrev pub invariant-statements::block-loop-s : goal.invariant-statements::block-loop-s
invariant-statements::block-loop-s g l = Comes (block_from l.program (below l.program l.levels) l.frame l.statements) (at l.fn.memory (g.W.World.log l.fn.world)) (block_from l.program (below l.program l.levels) l.frame (drop l.s-index l.statements)) (at l.memory (g.W.World.log l.world)) × Keeps (at l.fn.memory (g.W.World.log l.fn.world)) (at l.memory (g.W.World.log l.world))

abbrev pub invariant-loops::each_column-loop-j : goal.invariant-loops::each_column-loop-j
invariant-loops::each_column-loop-j g l = Comes (columns_from l.program (level_at l.program (below l.program l.levels)) l.frame l.place l.slot l.a l.body 0 l.a.cols) (at l.fn.memory (g.W.World.log l.fn.world)) (columns_from l.program (level_at l.program (below l.program l.levels)) l.frame l.place l.slot l.a l.body l.j (l.a.cols - l.j)) (at l.memory (g.W.World.log l.world)) × Keeps (at l.fn.memory (g.W.World.log l.fn.world)) (at l.memory (g.W.World.log l.world))

abbrev pub invariant-loops::repeat-loop-pass : goal.invariant-loops::repeat-loop-pass
invariant-loops::repeat-loop-pass g l = Comes (passes l.program (level_at l.program (below l.program l.levels)) l.frame l.place l.e l.body (l.most + 1)) (at l.fn.memory (g.W.World.log l.fn.world)) (passes l.program (level_at l.program (below l.program l.levels)) l.frame l.place l.e l.body (l.most + 1 - l._pass)) (at l.memory (g.W.World.log l.world)) × Keeps (at l.fn.memory (g.W.World.log l.fn.world)) (at l.memory (g.W.World.log l.world))

abbrev pub invariant-assigning::assign_all-loop-target : goal.invariant-assigning::assign_all-loop-target
invariant-assigning::assign_all-loop-target g l = Comes (targets_from l.program (below l.program l.levels) l.frame l.place l.targets l.fn.values.items) (at l.fn.memory (g.W.World.log l.fn.world)) (targets_from l.program (below l.program l.levels) l.frame l.place (drop l.target-index l.targets) (into_iter_items l.left)) (at l.memory (g.W.World.log l.world)) × Keeps (at l.fn.memory (g.W.World.log l.fn.world)) (at l.memory (g.W.World.log l.world))
