-- Each name leads back to its function.
use Rattle.std.proofs.Common.{◌≡◌, Some, refl}
use Rattle.pl_setfn.specs.Naming.{name_of, fn_named}
use Rattle.pl_setfn.specs.declared.set_fn.SetFn.{SetFn}
use Rattle.pl_setfn.specs.declared.set_fn.SetFn.TheVariants.{Find, Reshape, Repmat, Sort, Unique, Any, All, Cumsum, Fliplr, Flipud, Nnz}
use Rattle.pl_setfn.proofs.laws.names_differ.Goals as goal

way_back : (f : SetFn) → fn_named (name_of f) ≡ Some f
unfolding fn_named
way_back Find = refl
way_back Reshape = refl
way_back Repmat = refl
way_back Sort = refl
way_back Unique = refl
way_back Any = refl
way_back All = refl
way_back Cumsum = refl
way_back Fliplr = refl
way_back Flipud = refl
way_back Nnz = refl

pub returns : goal.returns
returns c = way_back c.args.f
