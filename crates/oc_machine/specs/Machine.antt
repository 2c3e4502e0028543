-- What each command does to the state, and what it answers.
use Rattle.oc_model.specs.declared.command.Command.{Command}
use Rattle.oc_model.specs.declared.command.Command.TheVariants.{Class, RenameClass, RenameField, Convert, Index, Unindex, ConfigRun, ConfigNumber, ConfigFlag, New, Make, Let, BindNumber, BindField, Forget, Names, Show, PeekName, PeekNumber, Store, Delete, Activate, Deactivate, Refresh, Purge, Query, Example, Commit, Rollback}
use Rattle.std.specs.Prelude.{true, false}
use Rattle.oc_model.specs.States.{State}
use Rattle.oc_machine.specs.Outcomes.{Outcome, settled}
use Rattle.oc_machine.specs.SchemaLines.{class_step, rename_class_step, rename_field_step, convert_step, index_step}
use Rattle.oc_machine.specs.ObjectLines.{new_step, let_step, bind_number_step, bind_field_step, forget_step, names_step, purge_step, config_run_step, config_number_step, config_flag_step}
use Rattle.oc_machine.specs.WalkLines.{store_step, make_step, delete_step, activate_step, deactivate_step, refresh_step, show_step, peek_name_step, peek_number_step}
use Rattle.oc_machine.specs.QueryLines.{query_step, example_step}
use Rattle.oc_machine.specs.CommitLines.{commit_step, rollback_step}

-- The new state and the answer.
unfoldable pub step : State → Command → Outcome
unfolding class_step rename_class_step rename_field_step convert_step index_step new_step let_step bind_number_step bind_field_step forget_step names_step purge_step config_run_step config_number_step config_flag_step store_step make_step delete_step activate_step deactivate_step refresh_step show_step peek_name_step peek_number_step query_step example_step commit_step rollback_step
step m (Class name parent fields) = settled m (class_step m name parent fields)
step m (RenameClass class to) = settled m (rename_class_step m class to)
step m (RenameField class field to) = settled m (rename_field_step m class field to)
step m (Convert class field from) = settled m (convert_step m class field from)
step m (Index class field) = settled m (index_step m class field true)
step m (Unindex class field) = settled m (index_step m class field false)
step m (ConfigRun which to) = settled m (config_run_step m which to)
step m (ConfigNumber class setting to) = settled m (config_number_step m class setting to)
step m (ConfigFlag class setting on) = settled m (config_flag_step m class setting on)
step m (New name class givens) = settled m (new_step m name class givens)
step m (Make class givens) = settled m (make_step m class givens)
step m (Let name field value) = settled m (let_step m name field value)
step m (BindNumber name number) = settled m (bind_number_step m name number)
step m (BindField name source field) = settled m (bind_field_step m name source field)
step m (Forget name) = settled m (forget_step m name)
step m Names = settled m (names_step m)
step m (Show name) = settled m (show_step m name)
step m (PeekName name depth side) = settled m (peek_name_step m name depth side)
step m (PeekNumber number depth side) = settled m (peek_number_step m number depth side)
step m (Store name depth) = settled m (store_step m name depth)
step m (Delete name) = settled m (delete_step m name)
step m (Activate name depth) = settled m (activate_step m name depth)
step m (Deactivate name depth) = settled m (deactivate_step m name depth)
step m (Refresh name depth) = settled m (refresh_step m name depth)
step m (Purge name) = settled m (purge_step m name)
step m (Query class filter criteria) = settled m (query_step m class filter criteria)
step m (Example name) = settled m (example_step m name)
step m Commit = commit_step m
step m Rollback = rollback_step m
