-- The texts of the schema lead from nothing to it.
use Rattle.std.proofs.Common.{refl, codes, [], ◌∷◌, inl, inr}
use Rattle.sqlite.specs.Listing.{understood}
use Rattle.sqlite_tied.specs.Compute.{everything}
use Rattle.gate_schema.specs.Made.{MakesTableOf, MakesIndexOf, MakeInTurn}
use Rattle.gate_schema.specs.Schema.{gate_schema, gate_texts, schema_with, index_at, meta_table_text}
use Rattle.gate_schema.specs.Schema.{counter_table_text}
use Rattle.gate_schema.specs.Schema.{queue_table_text, change_table_text, change_approval_text, need_table_text}
use Rattle.gate_schema.specs.Schema.{item_table_text, build_table_text}
use Rattle.gate_schema.specs.Schema.{landing_table_text, report_table_text, delivery_table_text, need_needed_text}
use Rattle.gate_schema.specs.Schema.{item_queue_text}
use Rattle.gate_schema.specs.Schema.{build_serial_text, item_job_table_text, item_fast_table_text, meta_table_at}
use Rattle.gate_schema.specs.Schema.{counter_table_at, queue_table_at}
use Rattle.gate_schema.specs.Schema.{change_table_at, need_table_at, item_table_at, build_table_at, landing_table_at}
use Rattle.gate_schema.specs.Schema.{report_table_at, delivery_table_at}
use Rattle.gate_schema.specs.Schema.{item_job_table_at, item_fast_table_at}

meta_makes : MakesTableOf meta_table_text (schema_with 0 0) (schema_with 1 1)
unfolding understood everything Rattle.sqlite_schema.specs.Names.same_name
meta_makes = record { table = meta_table_at 0; plain = (refl, refl, refl, refl); defined = refl; uncounted = refl; is = refl }

counter_makes : MakesTableOf counter_table_text (schema_with 1 1) (schema_with 2 2)
unfolding understood everything Rattle.sqlite_schema.specs.Names.same_name
counter_makes = record { table = counter_table_at 0; plain = (refl, refl, refl, refl); defined = refl; uncounted = refl; is = refl }

queue_makes : MakesTableOf queue_table_text (schema_with 2 2) (schema_with 3 4)
unfolding understood everything Rattle.sqlite_schema.specs.Names.same_name
queue_makes = record { table = queue_table_at 0; plain = (refl, refl, refl, refl); defined = refl; uncounted = refl; is = refl }

change_makes : MakesTableOf change_table_text (schema_with 3 4) (schema_with 4 4)
unfolding understood everything Rattle.sqlite_schema.specs.Names.same_name
change_makes = record { table = change_table_at 0; plain = (refl, refl, refl, refl); defined = refl; uncounted = refl; is = refl }

change_approval_makes : MakesIndexOf change_approval_text (schema_with 4 4) (schema_with 4 5)
unfolding understood everything Rattle.sqlite_schema.specs.Names.same_name
change_approval_makes = record { at = 3; table = change_table_at 7; index = index_at (codes "change_approval") 0 7 (5 ∷ []); plain = (refl, refl, refl, refl); found = refl; defined = refl; is = refl }

need_makes : MakesTableOf need_table_text (schema_with 4 5) (schema_with 5 6)
unfolding understood everything Rattle.sqlite_schema.specs.Names.same_name
need_makes = record { table = need_table_at 0; plain = (refl, refl, refl, refl); defined = refl; uncounted = refl; is = refl }

item_makes : MakesTableOf item_table_text (schema_with 5 6) (schema_with 6 7)
unfolding understood everything Rattle.sqlite_schema.specs.Names.same_name
item_makes = record { table = item_table_at 0; plain = (refl, refl, refl, refl); defined = refl; uncounted = refl; is = refl }

build_makes : MakesTableOf build_table_text (schema_with 6 7) (schema_with 7 7)
unfolding understood everything Rattle.sqlite_schema.specs.Names.same_name
build_makes = record { table = build_table_at 0; plain = (refl, refl, refl, refl); defined = refl; uncounted = refl; is = refl }

landing_makes : MakesTableOf landing_table_text (schema_with 7 7) (schema_with 8 10)
unfolding understood everything Rattle.sqlite_schema.specs.Names.same_name
landing_makes = record { table = landing_table_at 0; plain = (refl, refl, refl, refl); defined = refl; uncounted = refl; is = refl }

report_makes : MakesTableOf report_table_text (schema_with 8 10) (schema_with 9 12)
unfolding understood everything Rattle.sqlite_schema.specs.Names.same_name
report_makes = record { table = report_table_at 0; plain = (refl, refl, refl, refl); defined = refl; uncounted = refl; is = refl }

delivery_makes : MakesTableOf delivery_table_text (schema_with 9 12) (schema_with 10 13)
unfolding understood everything Rattle.sqlite_schema.specs.Names.same_name
delivery_makes = record { table = delivery_table_at 0; plain = (refl, refl, refl, refl); defined = refl; uncounted = refl; is = refl }

need_needed_makes : MakesIndexOf need_needed_text (schema_with 10 13) (schema_with 10 14)
unfolding understood everything Rattle.sqlite_schema.specs.Names.same_name
need_needed_makes = record { at = 4; table = need_table_at 9; index = index_at (codes "need_needed") 0 9 (3 ∷ []); plain = (refl, refl, refl, refl); found = refl; defined = refl; is = refl }

item_queue_makes : MakesIndexOf item_queue_text (schema_with 10 14) (schema_with 10 15)
unfolding understood everything Rattle.sqlite_schema.specs.Names.same_name
item_queue_makes = record { at = 5; table = item_table_at 11; index = index_at (codes "item_queue") 0 11 (2 ∷ 0 ∷ []); plain = (refl, refl, refl, refl); found = refl; defined = refl; is = refl }

build_serial_makes : MakesIndexOf build_serial_text (schema_with 10 15) (schema_with 10 16)
unfolding understood everything Rattle.sqlite_schema.specs.Names.same_name
build_serial_makes = record { at = 6; table = build_table_at 13; index = index_at (codes "build_serial") 0 13 (3 ∷ []); plain = (refl, refl, refl, refl); found = refl; defined = refl; is = refl }

pub item_job_makes : MakesTableOf item_job_table_text (schema_with 10 16) (schema_with 11 17)
unfolding understood everything Rattle.sqlite_schema.specs.Names.same_name
item_job_makes = record { table = item_job_table_at 0; plain = (refl, refl, refl, refl); defined = refl; uncounted = refl; is = refl }

pub item_fast_makes : MakesTableOf item_fast_table_text (schema_with 11 17) (schema_with 12 17)
unfolding understood everything Rattle.sqlite_schema.specs.Names.same_name
item_fast_makes = record { table = item_fast_table_at 0; plain = (refl, refl, refl, refl); defined = refl; uncounted = refl; is = refl }

pub all_made : MakeInTurn gate_texts (schema_with 0 0) gate_schema
all_made = (
  schema_with 1 1,
  inl meta_makes,
  (
    schema_with 2 2,
    inl counter_makes,
    (
      schema_with 3 4,
      inl queue_makes,
      (
        schema_with 4 4,
        inl change_makes,
        (
          schema_with 4 5,
          inr change_approval_makes,
          (
            schema_with 5 6,
            inl need_makes,
            (
              schema_with 6 7,
              inl item_makes,
              (
                schema_with 7 7,
                inl build_makes,
                (
                  schema_with 8 10,
                  inl landing_makes,
                  (
                    schema_with 9 12,
                    inl report_makes,
                    (
                      schema_with 10 13,
                      inl delivery_makes,
                      (
                        schema_with 10 14,
                        inr need_needed_makes,
                        (
                          schema_with 10 15,
                          inr item_queue_makes,
                          (
                            schema_with 10 16,
                            inr build_serial_makes,
                            (schema_with 11 17, inl item_job_makes, (schema_with 12 17, inl item_fast_makes, refl)),
                          ),
                        ),
                      ),
                    ),
                  ),
                ),
              ),
            ),
          ),
        ),
      ),
    ),
  ),
)
